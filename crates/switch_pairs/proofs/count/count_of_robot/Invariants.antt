use Rattle.std.proofs.Common.{◌≡◌, ◌≤◌, ◌*◌, length}
use Rattle.std.specs.Prelude.{flat_map}
use Rattle.fleet_base.specs.Lists.{range}
use Rattle.switch_pairs.specs.Found.{pairs_of_visit}
use Rattle.switch_pairs.proofs.count.count_of_robot.Given as goal

abbrev pub invariant-loop-index : goal.invariant-loop-index
invariant-loop-index l = record {
  so_far : l.count ≡ length (flat_map (pairs_of_visit l.plan l.robot) (range 0 l.index));
  few : l.count ≤ 65536 * l.index;
}
