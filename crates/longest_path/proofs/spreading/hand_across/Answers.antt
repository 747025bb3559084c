use Rattle.std.proofs.Common.{ℕ, ◌≡◌, ◌+◌, ◌<◌, ◌≤◌, List, Some, Option, sym, ap, ◌∙◌, subst, refl, inr, arith, length, get_or}
use Rattle.std.specs.Prelude.{slice_get}
use Rattle.fleet_base.specs.declared.geometry.Visit.{Visit}
use Rattle.fleet_base.specs.declared.order.PairId.{PairId}
use Rattle.fleet_base.specs.Order.{HasEdge, IsVisit}
use Rattle.fleet_base.specs.State.{duration_of}
use Rattle.fleet_base.proofs.Edges.{edge_unique}
use Rattle.fleet_base.specs.VisitRows.{tick_in}
use Rattle.plan_graph.specs.Views.{order_in}
use Rattle.longest_path.specs.Cells.{put}
use Rattle.longest_path.specs.Rising.{IsHanding}
use Rattle.longest_path.specs.declared.work.Work.{Work}
use Rattle.longest_path.proofs.Places.{read_at}
use Rattle.longest_path.proofs.Handing.{AreObeyed, handing_begins, handing_raised, obeyed_next, obeyed_all}
use Rattle.longest_path.proofs.spreading.hand_across.Goals as goal
use Rattle.longest_path.proofs.spreading.hand_across.Goals.{in-Some, in_default}

pub loop-q-init : goal.loop-q-init
loop-q-init c = record {
  handing = handing_begins c.args.view.now.graph c.args.fleet.now c.requires.state (order_in c.args.view.now) c.requires.closed c.args.v c.args.tick c.args.rows.now c.args.work.now c.requires.rows c.requires.room c.requires.here;
  obeyed = λ k q w lt. absurd (omega (arith, lt));
}

pub head_out_of-requires : goal.head_out_of-requires
head_out_of-requires c =
    let qs = c.pairs_out_of-q-items.result.now in
    c.pairs_out_of-q-items.ensures.there c.loop-q.q-index (get_or qs c.loop-q.q-index (record { 0 = 0 })) (read_at qs qs c.loop-q.q-index refl c.loop-q-test.true)

pub loop-q-preserved : goal.loop-q-preserved
loop-q-preserved c =
    let g = c.args.view.now.graph in
    let x = c.args.fleet.now in
    let more = order_in c.args.view.now in
    let v = c.args.v in
    let qs = c.pairs_out_of-q-items.result.now in
    let k = c.loop-q.q-index in
    let q = get_or qs k (record { 0 = 0 }) in
    let at : slice_get qs k ≡ Some q = read_at qs qs k refl c.loop-q-test.true in
    let rows = c.loop-q.rows in
    let work = c.loop-q.work in
    elim c.match-head_out_of.branch [
      | in-Some w ↦
          let head = w.in-Some.head in
          let e = w.in-Some.ensures.edge in
          let next : c.args.tick + 1 + w.delay.result ≡ c.args.tick + duration_of x head = omega (arith, w.delay.ensures) in
          let made = handing_raised g x c.requires.state more c.requires.closed v c.args.tick c.args.rows.now c.args.work.now rows work c.loop-q.invariant.handing head (inr (q.0, e.0)) e.1 c.requires.low w.raise.new.rows w.raise.new.self
          (λ lt. w.raise.ensures.later (omega (arith, lt, next)) ∙ ap (λ n. put rows head n) next)
          (λ lt. w.raise.ensures.noted (omega (arith, lt, next)))
          (λ le. w.raise.ensures.stays (omega (arith, le, next)))
          (λ le. w.raise.ensures.rests (omega (arith, le, next))) in
          let here : (u : Visit) → HasEdge g more q.0 v u → c.args.tick + duration_of x u ≤ tick_in w.raise.new.rows u = λ u f. subst (λ (y : Visit). c.args.tick + duration_of x y ≤ tick_in w.raise.new.rows y) (edge_unique g more q.0 v head v u e.0 f).1 made.1 in
          let obeyed = obeyed_next g x more (tick_in rows) (tick_in w.raise.new.rows) v c.args.tick qs k q at here made.2 c.loop-q.invariant.obeyed in
          subst (λ (r : List (List ℕ)). record { handing : IsHanding g x more v c.args.tick c.args.rows.now c.args.work.now r c.match-head_out_of.work; obeyed : AreObeyed g x more (tick_in r) v c.args.tick qs (k + 1) }) (sym w.rows-is)
          (subst (λ (n : Work). record { handing : IsHanding g x more v c.args.tick c.args.rows.now c.args.work.now w.raise.new.rows n; obeyed : AreObeyed g x more (tick_in w.raise.new.rows) v c.args.tick qs (k + 1) }) (sym w.work-is)
          (record { handing = made.0; obeyed = obeyed }))
      | in_default w ↦
          let obeyed = obeyed_next g x more (tick_in rows) (tick_in rows) v c.args.tick qs k q at (λ u f. absurd (w.in_default.ensures.none u f)) (λ u. omega arith) c.loop-q.invariant.obeyed in
          subst (λ (r : List (List ℕ)). record { handing : IsHanding g x more v c.args.tick c.args.rows.now c.args.work.now r c.match-head_out_of.work; obeyed : AreObeyed g x more (tick_in r) v c.args.tick qs (k + 1) }) (sym w.rows-is)
          (subst (λ (n : Work). record { handing : IsHanding g x more v c.args.tick c.args.rows.now c.args.work.now rows n; obeyed : AreObeyed g x more (tick_in rows) v c.args.tick qs (k + 1) }) (sym w.work-is)
          (record { handing = c.loop-q.invariant.handing; obeyed = obeyed }))
    ]

pub returns-clause-obeyed : goal.returns-clause-obeyed
returns-clause-obeyed c =
    obeyed_all c.args.view.now.graph c.args.fleet.now (order_in c.args.view.now) (tick_in c.loop-q.rows) c.args.v c.args.tick c.pairs_out_of-q-items.result.now c.loop-q.q-index c.pairs_out_of-q-items.ensures.all (omega (arith, c.loop-q-test.false)) c.loop-q.invariant.obeyed
