use Rattle.std.proofs.Common.{ℕ, ◌≡◌, ◌+◌, ◌<◌, ◌≤◌, List, Bool, Some, Option, sym, ap, ◌∙◌, subst, refl, inr, arith, length, get_or}
use Rattle.std.specs.Prelude.{slice_get}
use Rattle.fleet_base.specs.declared.geometry.Visit.{Visit}
use Rattle.fleet_base.specs.declared.order.PairId.{PairId}
use Rattle.fleet_base.specs.Order.{HasEdge, IsVisit}
use Rattle.fleet_base.specs.State.{duration_of}
use Rattle.fleet_base.proofs.Edges.{edge_unique}
use Rattle.fleet_base.specs.VisitRows.{tick_in}
use Rattle.plan_graph.specs.Views.{order_in}
use Rattle.longest_path.specs.Rising.{Marked}
use Rattle.longest_path.specs.Falling.{IsWaking}
use Rattle.longest_path.proofs.Places.{read_at}
use Rattle.longest_path.proofs.Falling.{AreWoken, waking_begins, waking_next, woken_next, woken_all}
use Rattle.longest_path.proofs.settling.wake_across.Goals as goal
use Rattle.longest_path.proofs.settling.wake_across.Goals.{in-Some, in_default}

pub loop-q-init : goal.loop-q-init
loop-q-init c = record {
  waking = waking_begins c.args.view.now.graph c.args.fleet.now (order_in c.args.view.now) c.args.v c.args.rows.now c.args.waiting.now c.requires.alike;
  woken = λ k q w lt. absurd (omega (arith, lt));
}

pub head_out_of-requires : goal.head_out_of-requires
head_out_of-requires c =
    let qs = c.pairs_out_of-q-items.result.now in
    c.pairs_out_of-q-items.ensures.there c.loop-q.q-index (get_or qs c.loop-q.q-index (record { 0 = 0 })) (read_at qs qs c.loop-q.q-index refl c.loop-q-test.true)

pub loop-q-preserved : goal.loop-q-preserved
loop-q-preserved c =
    let g = c.args.view.now.graph in
    let x = c.args.fleet.now in
    let order = order_in c.args.view.now in
    let v = c.args.v in
    let qs = c.pairs_out_of-q-items.result.now in
    let k = c.loop-q.q-index in
    let q = get_or qs k (record { 0 = 0 }) in
    let at : slice_get qs k ≡ Some q = read_at qs qs k refl c.loop-q-test.true in
    let rows = c.args.rows.now in
    let old = c.args.waiting.now in
    let marks = c.loop-q.waiting in
    let i = c.loop-q.invariant in
    elim c.match-head_out_of.branch [
      | in-Some w ↦
          let head = w.in-Some.head in
          let e = w.in-Some.ensures.edge in
          let more = w.wake_one.new.waiting in
          let made = waking_next g x order v rows old marks more head (c.args.tick + duration_of x head) c.requires.rows i.waking e.1 (inr (q.0, e.0)) w.wake_one.ensures.rests w.wake_one.ensures.others in
          let here : (u : Visit) → HasEdge g order q.0 v u → tick_in rows u ≡ c.args.tick + duration_of x u → Marked more u = λ u f. subst (λ (y : Visit). tick_in rows y ≡ c.args.tick + duration_of x y → Marked more y) (edge_unique g order q.0 v head v u e.0 f).1 made.1 in
          subst (λ (m : List (List Bool)). record { waking : IsWaking g order v rows old m; woken : AreWoken g x order rows v c.args.tick m qs (k + 1) }) (sym w.waiting-is)
          (record { waking = made.0; woken = woken_next g x order rows v c.args.tick marks more qs k q at here made.2 i.woken })
      | in_default w ↦
          subst (λ (m : List (List Bool)). record { waking : IsWaking g order v rows old m; woken : AreWoken g x order rows v c.args.tick m qs (k + 1) }) (sym w.waiting-is)
          (record { waking = i.waking; woken = woken_next g x order rows v c.args.tick marks marks qs k q at (λ u f. absurd (w.in_default.ensures.none u f)) (λ u m. m) i.woken })
    ]

pub returns-clause-woken : goal.returns-clause-woken
returns-clause-woken c =
    woken_all c.args.view.now.graph c.args.fleet.now (order_in c.args.view.now) c.args.rows.now c.args.v c.args.tick c.loop-q.waiting c.pairs_out_of-q-items.result.now c.loop-q.q-index c.pairs_out_of-q-items.ensures.all (omega (arith, c.loop-q-test.false)) c.loop-q.invariant.woken
