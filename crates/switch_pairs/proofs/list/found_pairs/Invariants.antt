use Rattle.std.proofs.Common.{◌≡◌}
use Rattle.std.specs.Prelude.{flat_map}
use Rattle.fleet_base.specs.Lists.{range}
use Rattle.switch_pairs.specs.Found.{pairs_of_visit}
use Rattle.switch_pairs.proofs.list.found_pairs.Given as goal

abbrev pub invariant-loop-index : goal.invariant-loop-index
invariant-loop-index l = l.found.items ≡ flat_map (pairs_of_visit l.plan l.robot) (range 0 l.index)
