-- A plan that is read has robots, each with a cell.
use Rattle.std.proofs.Common.{ℕ, suc, zero, ◌+◌, ◌<◌, ◌≤◌, List, [], ◌∷◌, arith, length, get_or}
use Rattle.fleet_base.specs.declared.geometry.Cell.{Cell}
use Rattle.plan_text.specs.PlanText.{IsPlanText, AreRobotLines, robot_lines}
use Rattle.fleet_base.specs.Plan.{HasRobots}

line_cells : (i : ℕ) (lines : List (List ℕ)) (plan : List (List Cell)) → AreRobotLines i lines plan → (k : ℕ) (d : List Cell) → k < length plan → 1 ≤ length (get_or plan k d)
line_cells i [] [] l k d h = absurd (omega (arith, h))
line_cells i [] (path ∷ plan) l k d h = absurd l
line_cells i (line ∷ lines) [] l k d h = absurd l
line_cells i (line ∷ lines) (path ∷ plan) l zero d h = l.0.says.some
line_cells i (line ∷ lines) (path ∷ plan) l (suc k) d h = line_cells (i + 1) lines plan l.1 k d (omega (arith, h))

pub read_plan_has_robots : (text : List ℕ) (plan : List (List Cell)) → IsPlanText text plan → HasRobots plan
read_plan_has_robots text plan t = record { robots = t.some; cells = λ k d h. line_cells 0 (robot_lines text) plan t.lines k d h }
