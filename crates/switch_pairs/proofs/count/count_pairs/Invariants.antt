use Rattle.std.proofs.Common.{◌≡◌, ◌≤◌, ◌*◌, length}
use Rattle.std.specs.Prelude.{flat_map}
use Rattle.fleet_base.specs.Lists.{range}
use Rattle.fleet_base.specs.Limits.{visit_limit}
use Rattle.switch_pairs.specs.Found.{pairs_of_lower}
use Rattle.switch_pairs.proofs.count.count_pairs.Given as goal

abbrev pub invariant-loop-robot : goal.invariant-loop-robot
invariant-loop-robot l = record {
  so_far : l.count ≡ length (flat_map (pairs_of_lower l.plan) (range 0 l.robot));
  few : l.count ≤ visit_limit * visit_limit * l.robot;
}
