-- The rows of an archive: the ends of the runs that were stored in it.
use Rattle.std.specs.Prelude.{◌≡◌, ℕ, ◌<◌, ◌≤◌, ◌==◌, Bool, not, List, [], ◌∷◌, map, filter, length, All, bytes_eq}
use Rattle.std.specs.List.{enumerate_from, list_any}
use Rattle.fleet_base.specs.Limits.{robot_limit, tick_limit, moment_limit}
use Rattle.archive_keep.specs.declared.ends.RobotEnd.{RobotEnd}

-- how many runs an archive holds at most
abbrev pub run_limit : ℕ
run_limit = 1000000

-- how a robot ended a run
pub record KeptRow : Type 0 where
  pub run : List ℕ
  pub robot : ℕ
  pub ticks : RobotEnd

-- the rows of a run, by robot
abbrev pub rows_of : List ℕ → List RobotEnd → List KeptRow
rows_of run ends = map (λ place. record { run = run; robot = place.0; ticks = place.1 }) (enumerate_from 0 ends)

-- whether a row has this name
abbrev pub has_run : List KeptRow → List ℕ → Bool
has_run rows run = list_any (λ row. bytes_eq row.run run) rows

-- the first item of each name, in their order
abbrev pub firsts : {X : Type 0} → (X → List ℕ) → List X → List X
firsts name [] = []
firsts name (x ∷ xs) = x ∷ filter (λ y. not (bytes_eq (name y) (name x))) (firsts name xs)

-- how many names the rows have
abbrev pub run_count : List KeptRow → ℕ
run_count rows = length (firsts (λ row. row.run) rows)

-- the rows of a robot
abbrev pub rows_with : ℕ → List KeptRow → List KeptRow
rows_with robot rows = filter (λ row. row.robot == robot) rows

-- the ticks are within the limits of plans and reports
pub record IsEnd (ticks : RobotEnd) : Type 0 where
  pub planned_bound : ticks.planned ≤ tick_limit
  pub actual_bound : ticks.actual ≤ moment_limit

-- ends of a run that may be stored: those of 1 to 256 robots
pub record IsStorable (ends : List RobotEnd) : Type 0 where
  pub some : 0 < length ends
  pub few : length ends ≤ robot_limit
  pub within : All IsEnd ends
