use Rattle.std.proofs.Common.{◌≡◌, ◌*◌, ◌≤◌, length, take}
use Rattle.std.specs.Prelude.{sum_by}
use Rattle.fleet_base.specs.Plan.{visits_of}
use Rattle.plan_check.proofs.limits.visits.Given as goal

abbrev pub invariant-loop-robot : goal.invariant-loop-robot
invariant-loop-robot l = record {
  few : l.visits ≤ 4097 * l.robot;
  sum : l.visits ≡ sum_by length (take l.robot (visits_of l.raw));
}
