use Rattle.std.proofs.Common.{sym, ◌∙◌, ◌+◌, ◌≤◌, ap, arith}
use Rattle.fleet_base.specs.Order.{last_in}
use Rattle.fleet_base.specs.Paths.{travel}
use Rattle.fleet_base.proofs.Walking.{can_go}
use Rattle.plan_graph.proofs.PlanGraphs.{index_within}
use Rattle.cert_check.specs.Sides.{order_by}
use Rattle.cert_check.proofs.SumLaws.{sums_rise, sums_differ, sums_short, sums_within}
use Rattle.cert_check.proofs.WalkLaws.{begun, goes_on, ends_here}
use Rattle.cert_check.proofs.path.walk.Goals as goal

pub loop-q-init : goal.loop-q-init
loop-q-init c = begun c.args.graph.now c.args.fleet.now (order_by c.args.graph.now c.args.fleet.now c.args.sides.now) c.args.robot c.args.from c.args.start _ c.args.pairs.now c.from-tick.ensures c.requires.from

pub moves-along-requires : goal.moves-along-requires
moves-along-requires c =
    let on = can_go c.args.graph.now c.loop-q.at c.in-Some.next.tail (sym c.leads_on.ensures ∙ c.if-not-leads_on.false) in
    let same = ap (last_in c.args.graph.now) on.robot in
    record {
      onward = on.onward;
      within = sums_within c.args.graph.now c.args.fleet.now c.args.sums.now c.requires.sums c.loop-q.at c.loop-q.invariant.there c.in-Some.next.tail.index on.onward (omega (arith, on.within, same));
      rising = sums_rise c.args.graph.now c.args.fleet.now c.args.sums.now c.requires.sums c.loop-q.at c.loop-q.invariant.there c.in-Some.next.tail.index on.onward (omega (arith, on.within, same));
    }

pub loop-q-preserved : goal.loop-q-preserved
loop-q-preserved c =
    let g = c.args.graph.now in
    let x = c.args.fleet.now in
    let on = can_go g c.loop-q.at c.in-Some.next.tail (sym c.leads_on.ensures ∙ c.if-not-leads_on.false) in
    let same = ap (last_in g) on.robot in
    let last : c.in-Some.next.tail.index ≤ last_in g c.loop-q.at.robot = omega (arith, on.within, same) in
    let along = sums_differ g x c.args.sums.now c.requires.sums c.loop-q.at c.loop-q.invariant.there c.in-Some.next.tail.index on.onward last c.moves-along.result c.moves-along.ensures in
    let short = sums_short g x c.args.sums.now c.requires.sums c.loop-q.at c.loop-q.invariant.there c.in-Some.next.tail.index on.onward last in
    let few = index_within g c.robots-within.ensures.limits c.in-Some.next.tail c.in-Some.ensures.tail in
    goes_on g x (order_by g x c.args.sides.now) c.args.robot c.args.from c.args.start c.args.pairs.now c.loop-q.q-index c.loop-q.at c.loop-q.tick c.loop-q.invariant c.in-Some.next c.moves-along.result c.duration-across.result _ c.loop-q-test.true (sym c.find_edge.ensures.value ∙ c.in-Some.is) (sym c.leads_on.ensures ∙ c.if-not-leads_on.false) along c.duration-across.ensures (omega arith) (omega (arith, along, short, few, c.duration-across.ensures, c.requires.state.delays c.in-Some.next.head)) c.in-Some.ensures.head

pub moves-requires-clause-rising : goal.moves-requires-clause-rising
moves-requires-clause-rising c =
    let same = ap (last_in c.args.graph.now) c.if-at-robot.false in
    sums_rise c.args.graph.now c.args.fleet.now c.args.sums.now c.requires.sums c.loop-q.at c.loop-q.invariant.there c.last.result (omega (arith, c.loop-q.invariant.there.index, same, c.last.ensures)) (omega (arith, same, c.last.ensures))

pub returns-clause-value : goal.returns-clause-value
returns-clause-value c =
    let g = c.args.graph.now in
    let x = c.args.fleet.now in
    let same = ap (last_in g) c.if-at-robot.false in
    let along = sums_differ g x c.args.sums.now c.requires.sums c.loop-q.at c.loop-q.invariant.there c.last.result (omega (arith, c.loop-q.invariant.there.index, same, c.last.ensures)) (omega (arith, same, c.last.ensures)) c.moves.result c.moves.ensures in
    ends_here g x (order_by g x c.args.sides.now) c.args.robot c.args.from c.args.start c.args.pairs.now c.loop-q.q-index c.loop-q.at c.loop-q.tick c.loop-q.invariant c.moves.result (c.loop-q.tick + c.from-2.result) c.loop-q-test.false c.if-at-robot.false (along ∙ ap (travel x c.loop-q.at) c.last.ensures) (omega (arith, c.from-2.ensures))
