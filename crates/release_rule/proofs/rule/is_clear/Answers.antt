use Rattle.std.proofs.Common.{List, length, get_or, sym, ap, ◌∙◌, arith, refl}
use Rattle.std.specs.Prelude.{slice_get}
use Rattle.std.proofs.lemmas.Option.{slice_get-get_or}
use Rattle.fleet_base.specs.declared.order.PairId.{PairId}
use Rattle.plan_graph.proofs.Numbers.{numbers_within}
use Rattle.release_rule.proofs.Pairs.{passed_more, clear_from_all}
use Rattle.release_rule.proofs.rule.is_clear.Goals as goal

pub is_passed-requires-clause-pair : goal.is_passed-requires-clause-pair
is_passed-requires-clause-pair c =
    let qs = c.pairs_of-q-items.result.now in
    let k = c.loop-q.q-index in
    numbers_within c.args.graph.now.pairs c.args.visit k (get_or qs k (record { 0 = 0 }))
    (ap (λ (ps : List PairId). slice_get ps k) (sym c.pairs_of-q-items.ensures) ∙ slice_get-get_or qs k (record { 0 = 0 }) c.loop-q-test.true)

pub loop-q-preserved : goal.loop-q-preserved
loop-q-preserved c =
    let qs = c.pairs_of-q-items.result.now in
    let k = c.loop-q.q-index in
    passed_more c.args.graph.now c.args.fleet.now c.args.visit k (get_or qs k (record { 0 = 0 })) c.loop-q.invariant
    (ap (λ (ps : List PairId). slice_get ps k) (sym c.pairs_of-q-items.ensures) ∙ slice_get-get_or qs k (record { 0 = 0 }) c.loop-q-test.true)
    (c.is_passed.ensures.0 c.if-not-is_passed.false)

pub returns : goal.returns
returns c = (
  λ h. clear_from_all c.args.graph.now c.args.fleet.now c.args.visit c.loop-q.q-index c.loop-q.invariant
      (omega (arith, c.loop-q-test.false, ap (λ (ps : List PairId). length ps) c.pairs_of-q-items.ensures)),
  λ p. refl,
)
