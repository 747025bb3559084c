use Rattle.std.proofs.Common.{◌*◌, ◌++◌, [], ◌∷◌, refl, arith, length, below_more}
use Rattle.fleet_base.specs.Plan.{IsSound}
use Rattle.fleet_gen.specs.Roads.{path_of}
use Rattle.fleet_gen.proofs.Ways.{early_enough}
use Rattle.fleet_gen.proofs.departures.least_wait.Goals as goal

pub loop-road-smaller : goal.loop-road-smaller
loop-road-smaller c =
    let below = early_enough c.args.grid.now c.args.fixed.now c.args.road (62 * length c.args.fixed.now) c.requires.road c.requires.beside c.loop-road.wait c.requires.sound c.requires.free (c.loop-road-test.ensures.no refl) in
    omega (arith, below)

pub loop-road-preserved : goal.loop-road-preserved
loop-road-preserved c =
    let not = c.loop-road-test.ensures.no refl in
    let below = early_enough c.args.grid.now c.args.fixed.now c.args.road (62 * length c.args.fixed.now) c.requires.road c.requires.beside c.loop-road.wait c.requires.sound c.requires.free not in
    record {
      bound = omega (arith, below);
      none = below_more (λ v. IsSound c.args.grid.now (c.args.fixed.now ++ path_of c.args.road v ∷ []) → ⊥) c.loop-road.wait c.loop-road.invariant.none not;
    }
