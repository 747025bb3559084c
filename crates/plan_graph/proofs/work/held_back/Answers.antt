use Rattle.std.proofs.Common.{List, length, get_or, sym, ap, ◌∙◌}
use Rattle.std.specs.Prelude.{slice_get}
use Rattle.std.proofs.lemmas.Option.{slice_get-get_or}
use Rattle.fleet_base.specs.declared.order.PairId.{PairId}
use Rattle.std.proofs.Common.{arith}
use Rattle.plan_graph.specs.Views.{order_in}
use Rattle.plan_graph.proofs.Numbers.{numbers_within}
use Rattle.plan_graph.proofs.Passing.{passed_more, free_from_all}
use Rattle.plan_graph.proofs.work.held_back.Goals as goal

pub holds-requires-clause-pair : goal.holds-requires-clause-pair
holds-requires-clause-pair c =
    let qs = c.into_of-pairs.result.now in
    let k = c.loop-place.place in
    numbers_within c.args.view.now.graph.pairs c.args.visit k (get_or qs k (record { 0 = 0 }))
    (ap (λ (ps : List PairId). slice_get ps k) (sym c.into_of-pairs.ensures) ∙ slice_get-get_or qs k (record { 0 = 0 }) c.loop-place-test.true)

pub loop-place-preserved : goal.loop-place-preserved
loop-place-preserved c =
    let qs = c.into_of-pairs.result.now in
    let k = c.loop-place.place in
    passed_more c.args.view.now.graph (order_in c.args.view.now) c.args.listed.now c.args.visit k (get_or qs k (record { 0 = 0 })) c.loop-place.invariant
    (ap (λ (ps : List PairId). slice_get ps k) (sym c.into_of-pairs.ensures) ∙ slice_get-get_or qs k (record { 0 = 0 }) c.loop-place-test.true)
    c.in_default.ensures.passed

pub returns-clause-free : goal.returns-clause-free
returns-clause-free c =
    free_from_all c.args.view.now.graph (order_in c.args.view.now) c.args.listed.now c.args.visit c.loop-place.place c.loop-place.invariant
    (omega (arith, c.loop-place-test.false, ap (λ (ps : List PairId). length ps) c.into_of-pairs.ensures))
