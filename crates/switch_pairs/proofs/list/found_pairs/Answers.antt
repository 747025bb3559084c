use Rattle.switch_pairs.specs.Found.{pairs_of_visit}
use Rattle.switch_pairs.proofs.Pairing.{pairs_found}
use Rattle.switch_pairs.proofs.Ranges.{flat_map_more}
use Rattle.switch_pairs.proofs.list.found_pairs.Goals as goal

pub loop-index-preserved : goal.loop-index-preserved
loop-index-preserved c =
    let more = flat_map_more (pairs_of_visit c.args.plan.now c.args.robot) c.loop-index.index in
    let here = pairs_found c.args.plan.now c.args.robot c.loop-index.index c.args.stops.now c.stop_at-stop.result c.higher_at.result.now c.requires.stops c.requires.robot c.stop_at-stop.ensures c.higher_at.ensures in
    cc (more, here, c.in_ok-push_pairs.ensures, c.loop-index.invariant)
