use Rattle.std.proofs.Common.{ℕ, ◌<◌, ◌≤◌, length}
use Rattle.fleet_base.specs.Lists.{row_of}
use Rattle.plan_check.proofs.checker.listed_ticks.Given as goal

abbrev pub invariant-loop-robot : goal.invariant-loop-robot
invariant-loop-robot l = record {
  some : 1 ≤ l.ticks;
  all : (i : ℕ) → i < l.robot → length (row_of l.raw i) ≤ l.ticks;
}
