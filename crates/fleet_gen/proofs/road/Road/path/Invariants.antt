use Rattle.std.proofs.Common.{◌≡◌, ◌-◌}
use Rattle.std.specs.Prelude.{map}
use Rattle.std.specs.List.{range_with_len}
use Rattle.fleet_gen.specs.Roads.{cell_after}
use Rattle.fleet_gen.proofs.road.Road.path.Given as goal

abbrev pub invariant-loop-tick : goal.invariant-loop-tick
invariant-loop-tick l = l.path.items ≡ map (λ t. cell_after l.self (t - l.wait)) (range_with_len 0 l.tick)
