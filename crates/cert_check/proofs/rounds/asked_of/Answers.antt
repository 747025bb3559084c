use Rattle.std.proofs.Common.{List, ◌-◌, length, get_or, sym, ◌∙◌, ap, arith}
use Rattle.std.specs.Prelude.{slice_get}
use Rattle.std.proofs.lemmas.Bool.{false≢true}
use Rattle.std.proofs.lemmas.Option.{slice_get-get_or}
use Rattle.fleet_base.specs.declared.order.PairId.{PairId}
use Rattle.fleet_base.specs.VisitRows.{tick_in}
use Rattle.cert_check.specs.Sides.{order_by}
use Rattle.cert_check.proofs.AskLaws.{asked_more, asked_all, ahead_of}
use Rattle.cert_check.proofs.rounds.asked_of.Goals as goal

pub overflow_add-row : goal.overflow_add-row
overflow_add-row c =
    omega (arith, ap (λ r. get_or r (c.args.v.index - 1) 0) c.row.ensures, c.requires.bound (record { robot = c.args.v.robot; index = c.args.v.index - 1 }), c.duration-duration.ensures, c.requires.state.delays c.args.v)

pub loop-q-preserved : goal.loop-q-preserved
loop-q-preserved c =
    let qs = c.pairs_of-q-items.result.now in
    let k = c.loop-q.q-index in
    asked_more c.args.graph.now c.args.fleet.now (order_by c.args.graph.now c.args.fleet.now c.args.sides.now) (tick_in c.args.ticks.now) c.args.v k c.loop-q.tick c.max-tick-in-loop-q.result c.asked_by.result (get_or qs k (record { 0 = 0 })) c.loop-q.invariant
    (ap (λ (ps : List PairId). slice_get ps k) (sym c.pairs_of-q-items.ensures) ∙ slice_get-get_or qs k (record { 0 = 0 }) c.loop-q-test.true) c.asked_by.ensures c.max-tick-in-loop-q.ensures

pub returns : goal.returns
returns c =
    asked_all c.args.graph.now c.args.fleet.now (order_by c.args.graph.now c.args.fleet.now c.args.sides.now) (tick_in c.args.ticks.now) c.args.v c.loop-q.q-index c.loop-q.tick c.loop-q.invariant (omega (arith, c.loop-q-test.false, ap (λ (ps : List PairId). length ps) c.pairs_of-q-items.ensures))
    (ahead_of _ _ (λ h. false≢true (c.in_default.ensures.some.1 h)))
