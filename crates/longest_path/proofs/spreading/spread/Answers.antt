use Rattle.std.proofs.Common.{ℕ, ◌≡◌, ◌≢◌, ◌⊎◌, ◌+◌, ◌<◌, ◌≤◌, List, Bool, true, false, sym, ap, ◌∙◌, subst, refl, inl, inr, arith}
use Rattle.fleet_base.specs.declared.geometry.Visit.{Visit}
use Rattle.fleet_base.specs.Order.{IsVisit}
use Rattle.fleet_base.specs.VisitRows.{tick_in}
use Rattle.plan_graph.specs.Views.{order_in}
use Rattle.longest_path.specs.Cells.{HasCell, AreAlike, put, mark_count}
use Rattle.longest_path.specs.Working.{IsWorkFor, IsKeptBy}
use Rattle.longest_path.specs.Rising.{IsUnderWay, Marked, headroom}
use Rattle.longest_path.proofs.Cells.{alike_on, alike_sym, alike_cell, put_alike, marked_cell}
use Rattle.longest_path.proofs.Agendas.{count_taken}
use Rattle.longest_path.proofs.Working.{visit_cell, cell_visit}
use Rattle.longest_path.proofs.Handing.{under_taken, under_low, under_ends, under_returns, tail_apart}
use Rattle.longest_path.proofs.spreading.spread.Goals as goal

pub hand_on-requires-clause-room : goal.hand_on-requires-clause-room
hand_on-requires-clause-room c =
    let rows = c.loop-tail.rows in
    let work = c.loop-tail.work in
    let i = c.loop-tail.invariant in
    let v = c.in-Some.v in
    let has = marked_cell work.waiting v c.in-Some.ensures.some in
    record {
      waiting = subst (λ (m : List (List Bool)). AreAlike rows m) (sym c.in-Some.ensures.rest) (alike_on rows work.waiting (put work.waiting v false) i.room.waiting (put_alike work.waiting v false has));
      raised = i.room.raised;
      saved = i.room.saved;
    }

pub hand_on-requires-clause-there : goal.hand_on-requires-clause-there
hand_on-requires-clause-there c =
    let rows = c.loop-tail.rows in
    let work = c.loop-tail.work in
    let i = c.loop-tail.invariant in
    let v = c.in-Some.v in
    cell_visit c.args.view.now.graph rows v i.are (alike_cell work.waiting rows v (alike_sym rows work.waiting i.room.waiting) (marked_cell work.waiting v c.in-Some.ensures.some))

pub hand_on-requires-clause-low : goal.hand_on-requires-clause-low
hand_on-requires-clause-low c =
    under_low c.args.view.now.graph c.args.fleet.now (order_in c.args.view.now) c.args.tail c.args.given c.requires.state (tick_in c.loop-tail.rows) (Marked c.loop-tail.work.waiting) c.in-Some.v c.loop-tail.invariant.under_way c.in-Some.ensures.some

pub loop-tail-preserved : goal.loop-tail-preserved
loop-tail-preserved c =
    let g = c.args.view.now.graph in
    let x = c.args.fleet.now in
    let more = order_in c.args.view.now in
    let tail = c.args.tail in
    let given = c.args.given in
    let rows = c.loop-tail.rows in
    let work = c.loop-tail.work in
    let s = tick_in rows in
    let i = c.loop-tail.invariant in
    let v = c.in-Some.v in
    let here = c.in-Some.ensures.some in
    let has = marked_cell work.waiting v here in
    let still : s tail ≡ given = sym c.tick_at.ensures ∙ c.loop-tail-test.true in
    let apart = tail_apart g x more tail given s (Marked work.waiting) v i.under_way here still in
    let taken = subst (λ (m : List (List Bool)). IsUnderWay g x more tail given s (λ w. Marked m w ⊎ (w ≡ v))) (sym c.in-Some.ensures.rest) (under_taken g x more tail given s work.waiting v has here i.under_way) in
    record {
      are = c.hand_on.ensures.rows;
      room = c.hand_on.ensures.room;
      kept = λ base k. c.hand_on.ensures.kept base (let old = i.kept base k in record { raised = old.raised; others = old.others });
      under_way = c.hand_on.ensures.under_way tail given apart taken;
    }

pub loop-tail-smaller : goal.loop-tail-smaller
loop-tail-smaller c =
    let work = c.loop-tail.work in
    let v = c.in-Some.v in
    let here = c.in-Some.ensures.some in
    let e = ap (λ (m : List (List Bool)). mark_count m) c.in-Some.ensures.rest in
    omega (arith, e, count_taken work.waiting v (marked_cell work.waiting v here) here, c.hand_on.ensures.less)

pub returns-in-None-clause-least : goal.returns-in-None-clause-least
returns-in-None-clause-least c = λ _.
    under_ends c.args.view.now.graph c.args.fleet.now (order_in c.args.view.now) c.args.tail c.args.given c.requires.state.fleet.graph (tick_in c.loop-tail.rows) (Marked c.loop-tail.work.waiting) c.loop-tail.invariant.under_way
    (λ v m. let z = c.in-None.ensures.none v in cc)

pub returns-clause-cyclic : goal.returns-clause-cyclic
returns-clause-cyclic c = λ _.
    under_returns c.args.view.now.graph c.args.fleet.now (order_in c.args.view.now) c.args.tail c.args.given c.requires.state.fleet.graph (tick_in c.loop-tail.rows) (Marked c.loop-tail.work.waiting) c.loop-tail.invariant.under_way
    (λ e. c.loop-tail-test.false (c.tick_at.ensures ∙ e))
