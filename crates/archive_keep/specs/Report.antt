-- The report of lateness.
use Rattle.std.specs.Prelude.{ℕ, ◌-◌, List, [], ◌∷◌, ◌++◌, map, flat_map, length, sum_by, codes}
use Rattle.fleet_base.specs.Limits.{robot_limit}
use Rattle.fleet_base.specs.Bytes.{fields}
use Rattle.fleet_base.specs.Lists.{range}
use Rattle.archive_keep.specs.declared.ends.RobotEnd.{RobotEnd}
use Rattle.archive_keep.specs.Rows.{KeptRow, rows_with, run_count}

-- how many ticks too late a robot ended; one that is early is not late
abbrev pub late_of : RobotEnd → ℕ
late_of ticks = ticks.actual - ticks.planned

-- words and numbers as a line
abbrev pub line_of : List ℕ → List ℕ → List ℕ
line_of words numbers = words ++ fields numbers ++ 10 ∷ []

-- how many ends a robot has, and the sums of their planned ticks, their actual ones, and how late they are
abbrev pub sums_of : List RobotEnd → List ℕ
sums_of ends = length ends ∷ sum_by (λ ticks. ticks.planned) ends ∷ sum_by (λ ticks. ticks.actual) ends ∷ sum_by late_of ends ∷ []

-- the line of a robot with these ends, and none where there is no end
abbrev pub robot_text : ℕ → List RobotEnd → List ℕ
robot_text robot [] = []
robot_text robot (ticks ∷ ends) = line_of (codes "late") (robot ∷ sums_of (ticks ∷ ends))

-- the same of the robot's rows
abbrev pub part_of : List KeptRow → ℕ → List ℕ
part_of rows robot = robot_text robot (map (λ row. row.ticks) (rows_with robot rows))

-- the robots from 0 to 255
unfoldable pub all_robots : List ℕ
all_robots = range 0 robot_limit

-- the line of each robot that has a row
abbrev pub robots_text : List KeptRow → List ℕ
robots_text rows = flat_map (part_of rows) all_robots

-- the line of the number of runs
abbrev pub runs_text : List KeptRow → List ℕ
runs_text rows = line_of (codes "runs") (run_count rows ∷ [])

-- the whole report
abbrev pub lateness_of : List KeptRow → List ℕ
lateness_of rows = robots_text rows ++ runs_text rows
