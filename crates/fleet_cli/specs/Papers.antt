-- The map and the plan that a command names, as far as a shelf tells its files.
use Rattle.std.specs.Prelude.{ℕ, ◌≡◌, ◌<◌, ◌≤◌, List, length, Option, Some, IfSome}
use Rattle.fleet_base.specs.declared.geometry.Cell.{Cell}
use Rattle.fleet_base.specs.declared.geometry.PlannedVisit.{PlannedVisit}
use Rattle.fleet_base.specs.Grid.{OccupancyGrid}
use Rattle.fleet_base.specs.Plan.{IsAccepted, visits_of}
use Rattle.fleet_base.specs.Pairs.{pairs_of}
use Rattle.fleet_base.specs.Limits.{paper_limit, pair_limit}
use Rattle.fleet_recovery.specs.Papers.{Papers}
use Rattle.map_text.specs.MapText.{IsMapText}
use Rattle.plan_text.specs.PlanText.{IsPlanText}
use Rattle.fleet_cli.specs.declared.papers.CheckedPapers.{CheckedPapers}

-- the files of a shelf, and whether it tells them
pub record Files : Type 1 where
  pub tells : Type 0
  pub file : List ℕ → Option (List ℕ)

-- these files, told or not
abbrev pub files_of : Type 0 → (List ℕ → Option (List ℕ)) → Files
files_of tells file = record { tells = tells; file = file }

-- the shelf failed, and the file of this name is the one that it was asked for last, where it tells the name
abbrev pub failed_at : Type 0 → Option (List ℕ) → Type 0 → List ℕ → Type 0
failed_at tells asked failed name = failed × (tells → IfSome asked (λ n. n ≡ name))

-- the shelf failed at no file
abbrev pub nowhere : List ℕ → Type 0
nowhere name = ⊥

-- where the shelf tells its files, the one of this name has these bytes
abbrev pub IsFile : Files → List ℕ → List ℕ → Type 0
IsFile files name bytes = files.tells → files.file name ≡ Some bytes

-- the file is longer than 2^25 bytes, and so long
pub record IsLong (files : Files) (name : List ℕ) (n : ℕ) : Type 0 where
  pub above : paper_limit < n
  pub is_file : files.tells → (bytes : List ℕ) × (files.file name ≡ Some bytes) × (n ≡ length bytes)

-- the file has these bytes, at most 2^25 of them
pub record IsPaper (files : Files) (name bytes : List ℕ) : Type 0 where
  pub is_file : IsFile files name bytes
  pub small : length bytes ≤ paper_limit

-- the file of this name is this map
pub record HasMap (files : Files) (map_name : List ℕ) (grid : OccupancyGrid) : Type 0 where
  pub bytes : List ℕ
  pub paper : IsPaper files map_name bytes
  pub text : IsMapText bytes grid

-- the file of this name is a map
abbrev pub HasAMap : Files → List ℕ → Type 0
HasAMap files map_name = (grid : OccupancyGrid) × HasMap files map_name grid

-- and the other file is a plan
pub record HasPlan (files : Files) (map_name plan_name : List ℕ) (grid : OccupancyGrid) (plan : List (List Cell)) : Type 0 where
  pub on : HasMap files map_name grid
  pub bytes : List ℕ
  pub paper : IsPaper files plan_name bytes
  pub text : IsPlanText bytes plan

-- and the plan is accepted on the map, with these routes
pub record HasRoutes (files : Files) (map_name plan_name : List ℕ) (routes : List (List PlannedVisit)) : Type 0 where
  pub grid : OccupancyGrid
  pub plan : List (List Cell)
  pub papers : HasPlan files map_name plan_name grid plan
  pub accepted : IsAccepted grid plan
  pub visits : routes ≡ visits_of plan

-- the bytes that were read
abbrev pub bytes_of : CheckedPapers → Papers
bytes_of papers = record { map = papers.map.items; plan = papers.text.items }

-- the plan of these files is accepted, with these routes, and has few enough pairs; these are the bytes of both files
pub record IsSoundPaper (files : Files) (map_name plan_name : List ℕ) (papers : Papers) (routes : List (List PlannedVisit)) : Type 0 where
  pub has : HasRoutes files map_name plan_name routes
  pub few : length (pairs_of routes) ≤ pair_limit
  pub map_is : papers.map ≡ has.papers.on.bytes
  pub plan_is : papers.plan ≡ has.papers.bytes
