use Rattle.std.proofs.Common.{◌+◌, ◌<◌, List, Option, ap, ◌∙◌, sym, subst, arith, length}
use Rattle.fleet_base.specs.declared.order.Side.{Side}
use Rattle.plan_graph.specs.Views.{OrientedGraph}
use Rattle.schedule_trials.proofs.Sides.{AreGiven, one_given}
use Rattle.schedule_trials.proofs.views.view_with.Goals as goal

pub loop-number-preserved : goal.loop-number-preserved
loop-number-preserved c =
    let g = c.args.graph.now in
    let x = c.args.fleet.now in
    let n = c.loop-number.number in
    let lt : n < length g.pairs = omega (arith, c.loop-number-test.true, c.pair_count-number-end.ensures) in
    let more = one_given g x c.loop-number.view.sides n c.side_for-side.result lt c.side_for-side.ensures c.loop-number.invariant.1 in (
      ap (λ (v : OrientedGraph). v.graph) c.set.ensures ∙ c.loop-number.invariant.0,
      subst (λ (sides : List (Option Side)). AreGiven g x sides (n + 1)) (sym (ap (λ (v : OrientedGraph). v.sides) c.set.ensures)) more,
    )
