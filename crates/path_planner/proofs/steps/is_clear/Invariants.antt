use Rattle.std.proofs.Common.{ℕ, ◌≢◌, ◌<◌}
use Rattle.fleet_base.specs.Plan.{cell_at}
use Rattle.path_planner.proofs.steps.is_clear.Given as goal

abbrev pub invariant-loop-robot : goal.invariant-loop-robot
invariant-loop-robot l = (j : ℕ) → j < l.robot → cell_at l.fixed j l.tick ≢ l.at
