use Rattle.std.proofs.Common.{◌≡◌}
use Rattle.std.specs.Prelude.{flat_map}
use Rattle.fleet_base.specs.Lists.{range}
use Rattle.switch_pairs.specs.Found.{pairs_of_lower}
use Rattle.switch_pairs.proofs.list.list_pairs.Given as goal

abbrev pub invariant-loop-robot : goal.invariant-loop-robot
invariant-loop-robot l = l.list.items ≡ flat_map (pairs_of_lower l.plan) (range 0 l.robot)
