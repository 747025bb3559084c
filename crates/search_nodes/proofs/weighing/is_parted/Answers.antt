use Rattle.std.proofs.Common.{subst, get_or}
use Rattle.fleet_base.specs.declared.order.Side.{Side}
use Rattle.fleet_base.specs.Groups.{AreMates}
use Rattle.longest_path.specs.Deciding.{order_in_force}
use Rattle.search_nodes.specs.Weighing.{IsCandidateSide}
use Rattle.search_nodes.proofs.Sides.{mate_there}
use Rattle.search_nodes.proofs.Suspects.{read_mate}
use Rattle.search_nodes.proofs.weighing.is_parted.Goals as goal

pub candidate_side-requires-clause-there : goal.candidate_side-requires-clause-there
candidate_side-requires-clause-there c =
    let g = c.args.live.now.graph in
    let k = c.loop-mate.mate-index in
    mate_there g c.args.q.0 (get_or c.mates-mate-items.result.now k (record { 0 = 0 })).0 (read_mate g c.args.groups.now c.args.q.0 c.mates-mate-items.result.now c.requires.mates c.requires.there c.mates-mate-items.ensures k c.loop-mate-test.true)

pub returns-then-is_other : goal.returns-then-is_other
returns-then-is_other c =
    let g = c.args.live.now.graph in
    let x = c.args.live.now.state in
    let k = c.loop-mate.mate-index in
    let r = get_or c.mates-mate-items.result.now k (record { 0 = 0 }) in
    let mates : AreMates g c.args.q.0 r.0 = read_mate g c.args.groups.now c.args.q.0 c.mates-mate-items.result.now c.requires.mates c.requires.there c.mates-mate-items.ensures k c.loop-mate-test.true in
    λ e. record { mate = r.0; mates = mates; side = c.candidate_side-side.result; here = c.candidate_side-side.ensures; there = subst (λ (d : Side). IsCandidateSide g x (order_in_force c.args.live.now) r.0 d) (c.is_other.ensures.0 c.if-is_other.true) c.candidate_side.ensures }
