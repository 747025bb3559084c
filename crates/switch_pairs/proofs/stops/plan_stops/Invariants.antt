use Rattle.std.proofs.Common.{◌≡◌}
use Rattle.std.specs.Prelude.{flat_map}
use Rattle.fleet_base.specs.Lists.{range}
use Rattle.switch_pairs.specs.Stops.{stops_of}
use Rattle.switch_pairs.proofs.stops.plan_stops.Given as goal

abbrev pub invariant-loop-robot : goal.invariant-loop-robot
invariant-loop-robot l = l.stops.items ≡ flat_map (stops_of l.plan) (range 0 l.robot)
