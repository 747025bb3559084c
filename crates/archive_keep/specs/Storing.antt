-- What the calls of a keeper do with its rows, and what they tell of them.
use Rattle.std.specs.Prelude.{◌≡◌, ◌≢◌, ◌⊎◌, ◌↔◌, ℕ, ◌<◌, ◌≤◌, false, List, ◌++◌, map, length, All, Result, IfOk, IsErrOf, IsTrue}
use Rattle.std.specs.List.Sorted.{IsPermutation, IsSortedByKey}
use Rattle.std.specs.Ordering.{nat_cmp}
use Rattle.std.specs.Cmp.Lexicographic.{slice_cmp}
use Rattle.archive_keep.specs.declared.ends.RobotEnd.{RobotEnd}
use Rattle.archive_keep.specs.declared.keeper.Stored.{Stored}
use Rattle.archive_keep.specs.declared.keeper.Stored.TheVariants.{New, Kept, Full}
use Rattle.archive_keep.specs.declared.keeper.KeepFault.{KeepFault}
use Rattle.archive_keep.specs.declared.keeper.KeepFault.TheVariants.{Failed, Memory}
use Rattle.archive_keep.specs.Rows.{KeptRow, run_limit, rows_of, has_run, run_count, IsEnd}

-- no row has the name, and there is room for one more
abbrev pub TakesRun : List KeptRow → List ℕ → Type 0
TakesRun rows run = (has_run rows run ≡ false) × (run_count rows < run_limit)

-- no row has the name, and there is no room for one more
abbrev pub IsFull : List KeptRow → List ℕ → Type 0
IsFull rows run = (has_run rows run ≡ false) × (run_limit ≤ run_count rows)

-- what a store leaves: a name that is there is kept, a new one gets its rows, all of them or none
pub record Stores (run : List ℕ) (ends : List RobotEnd) (old new : List KeptRow) (result : Result Stored KeepFault) : Type 0 where
  pub kept : IfOk result (λ stored. (stored ≡ Kept) ↔ IsTrue (has_run old run))
  pub full : IfOk result (λ stored. (stored ≡ Full) ↔ IsFull old run)
  pub added : IfOk result (λ stored. stored ≡ New → new ≡ old ++ rows_of run ends)
  pub same : IfOk result (λ stored. stored ≢ New → new ≡ old)
  pub failed : IsErrOf result Failed → (new ≡ old) ⊎ (TakesRun old run × (new ≡ old ++ rows_of run ends))
  pub memory : IsErrOf result Memory → new ≡ old

-- these ends are those of the rows, by the names of their runs in the order of bytes
pub record AreByName (rows : List KeptRow) (ends : List RobotEnd) : Type 0 where
  pub sorted : List KeptRow
  pub all : IsPermutation rows sorted
  pub ascending : IsSortedByKey (λ row. row.run) (slice_cmp nat_cmp) sorted
  pub ends_are : ends ≡ map (λ row. row.ticks) sorted

-- one end for a run at most, each within the limits, so that no sum over them passes 10^18
pub record AreKept (ends : List RobotEnd) : Type 0 where
  pub few : length ends ≤ run_limit
  pub within : All IsEnd ends
