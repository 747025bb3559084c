use Rattle.std.proofs.Common.{List, length, get_or, sym, ap, ◌∙◌}
use Rattle.std.specs.Prelude.{slice_get}
use Rattle.std.proofs.lemmas.Option.{slice_get-get_or}
use Rattle.fleet_base.specs.declared.order.PairId.{PairId}
use Rattle.std.proofs.Common.{inl, inr, arith}
use Rattle.std.proofs.lemmas.Bool.{false≢true}
use Rattle.plan_graph.specs.Views.{order_in}
use Rattle.plan_graph.proofs.Numbers.{numbers_within, not_numbered}
use Rattle.plan_graph.proofs.view.Oriented.before.Goals as goal

pub has_edge-requires : goal.has_edge-requires
has_edge-requires c =
    let qs = c.into_of-q-items.result.now in
    let k = c.loop-q.q-index in
    let q = get_or qs k (record { 0 = 0 }) in
    numbers_within c.args.self.now.graph.pairs c.args.v k q
    (ap (λ (ps : List PairId). slice_get ps k) (sym c.into_of-q-items.ensures) ∙ slice_get-get_or qs k (record { 0 = 0 }) c.loop-q-test.true)

pub returns : goal.returns
returns c = (
  λ h. absurd (false≢true h),
  λ b.
      elim b [
        | inl e ↦ c.if-is_next.ensures.1 e
        | inr e ↦ absurd (not_numbered c.args.self.now.graph (order_in c.args.self.now) c.args.u c.args.v c.loop-q.q-index (omega (arith, c.loop-q-test.false, ap (λ (ps : List PairId). length ps) c.into_of-q-items.ensures)) c.loop-q.invariant e.0 e.1)
      ],
)
