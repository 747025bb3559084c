use Rattle.std.proofs.Common.{◌≡◌, ◌++◌}
use Rattle.std.specs.Prelude.{map}
use Rattle.fleet_base.specs.Lists.{range}
use Rattle.switch_pairs.specs.Stops.{stop_of}
use Rattle.switch_pairs.proofs.stops.push_stops.Given as goal

abbrev pub invariant-loop-index : goal.invariant-loop-index
invariant-loop-index l = l.stops.items ≡ l.initial.stops.items ++ map (λ k. stop_of l.plan (record { robot = l.robot; index = k })) (range 0 l.index)
