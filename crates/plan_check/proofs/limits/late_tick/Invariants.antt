use Rattle.std.proofs.Common.{ℕ, ◌<◌, ◌≤◌, length}
use Rattle.fleet_base.specs.Lists.{row_of}
use Rattle.plan_check.proofs.limits.late_tick.Given as goal

abbrev pub invariant-loop-robot : goal.invariant-loop-robot
invariant-loop-robot l = (i : ℕ) → i < l.robot → length (row_of l.raw i) ≤ 4097
