use Rattle.std.proofs.Common.{◌≤◌, ap, arith, length, length-append}
use Rattle.std.specs.Prelude.{flat_map}
use Rattle.fleet_base.specs.Lists.{range}
use Rattle.fleet_base.proofs.GraphLaws.{length-map}
use Rattle.switch_pairs.specs.Found.{pairs_of_visit, pair_of_stops}
use Rattle.switch_pairs.proofs.Pairing.{pairs_found}
use Rattle.switch_pairs.proofs.Counting.{few_higher}
use Rattle.switch_pairs.proofs.Ranges.{flat_map_more}
use Rattle.switch_pairs.proofs.count.count_of_robot.Goals as goal

pub loop-index-preserved : goal.loop-index-preserved
loop-index-preserved c =
    let more = ap length (flat_map_more (pairs_of_visit c.args.plan.now c.args.robot) c.loop-index.index) in
    let both = length-append (flat_map (pairs_of_visit c.args.plan.now c.args.robot) (range 0 c.loop-index.index)) (pairs_of_visit c.args.plan.now c.args.robot c.loop-index.index) in
    let here = ap length (pairs_found c.args.plan.now c.args.robot c.loop-index.index c.args.stops.now c.stop_at-stop.result c.higher_at.result.now c.requires.stops c.requires.robot c.stop_at-stop.ensures c.higher_at.ensures) in
    let as_many = length-map (pair_of_stops c.stop_at-stop.result) c.higher_at.result.now in
    let few : length c.higher_at.result.now ≤ 65536 = omega (arith, ap length c.higher_at.ensures, few_higher c.args.stops.now c.stop_at-stop.result c.requires.stops.few) in
    record {
      so_far = omega (arith, more, both, here, as_many, c.loop-index.invariant.so_far);
      few = omega (arith, c.loop-index.invariant.few, few);
    }
