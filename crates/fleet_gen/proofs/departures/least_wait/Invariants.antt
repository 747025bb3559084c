use Rattle.std.proofs.Common.{ℕ, ◌<◌, ◌≤◌, ◌-◌, ◌*◌, ◌++◌, [], ◌∷◌, length}
use Rattle.fleet_base.specs.Plan.{IsSound}
use Rattle.fleet_gen.specs.Roads.{path_of}
use Rattle.fleet_gen.proofs.departures.least_wait.Given as goal

abbrev pub invariant-loop-road : goal.invariant-loop-road
invariant-loop-road l = record {
  bound : l.wait ≤ 62 * length l.fixed;
  none : (v : ℕ) → v < l.wait → IsSound l.grid (l.fixed ++ path_of l.road v ∷ []) → ⊥;
}

abbrev pub decreases-loop-road : goal.decreases-loop-road
decreases-loop-road l = 62 * length l.fixed - l.wait
