use Rattle.std.proofs.Common.{arith, ap}
use Rattle.std.specs.Prelude.{map}
use Rattle.std.proofs.lemmas.Grind.{common_steps}
use Rattle.switch_pairs.specs.Stops.{stop_of}
use Rattle.fleet_base.proofs.Ranges.{range_more}
use Rattle.switch_pairs.proofs.stops.push_stops.Goals as goal

pub loop-index-preserved : goal.loop-index-preserved
loop-index-preserved c =
    let more = ap (map (λ k. stop_of c.args.plan.now (record { robot = c.args.robot; index = k }))) (range_more c.loop-index.index) in
    grind (arith, common_steps, more, c.loop-index.invariant, c.push.ensures.items, c.stop_at-stop.ensures)
