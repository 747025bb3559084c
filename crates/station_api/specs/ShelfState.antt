-- What a shelf in memory is: its files, the newest first, the name that was asked for last, and how its calls are counted.
use Rattle.std.specs.Prelude.{ℕ, List, Option, Some, None, Vec}
use Rattle.std.specs.declared.alloc.Global.{Global}
use Rattle.station_api.specs.Causes.{Counts}
use Rattle.station_api.specs.Files.{file_in}
use Rattle.station_api.specs.Meter.{counts_in}
use Rattle.station_api.specs.declared.mem_shelf.File.{File}
use Rattle.station_api.specs.declared.meter.Meter.{Meter}

-- a shelf in memory
pub record ShelfState : Type 0 where
  pub files : List File
  pub asked : Option (List ℕ)
  pub meter : Meter

-- the bytes of the file of a name
abbrev pub shelf_file : ShelfState → List ℕ → Option (List ℕ)
shelf_file shelf name = file_in shelf.files name

-- how often it has failed
abbrev pub shelf_counts : ShelfState → Counts
shelf_counts shelf = counts_in shelf.meter

-- the numbers of the calls that are to fail
abbrev pub shelf_fails_at : ShelfState → List ℕ
shelf_fails_at shelf = shelf.meter.failing.items

-- the name that was asked for last, if there was memory to keep it
abbrev pub shelf_asked : ShelfState → Option (List ℕ)
shelf_asked shelf = shelf.asked

-- the bytes of a name that was kept
abbrev pub name_kept : Option (Vec ℕ Global) → Option (List ℕ)
name_kept None = None
name_kept (Some name) = Some name.items
