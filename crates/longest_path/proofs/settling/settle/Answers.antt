use Rattle.std.proofs.Common.{ℕ, ◌≡◌, ◌⊎◌, ◌+◌, ◌*◌, ◌<◌, ◌≤◌, List, Bool, sym, ap, ◌∙◌, subst, arith}
use Rattle.fleet_base.specs.declared.geometry.Visit.{Visit}
use Rattle.fleet_base.specs.Order.{IsVisit}
use Rattle.fleet_base.specs.VisitRows.{tick_in}
use Rattle.plan_graph.specs.Views.{order_in}
use Rattle.longest_path.specs.Cells.{HasCell, put, mark_count}
use Rattle.longest_path.specs.Rising.{Marked}
use Rattle.longest_path.specs.Falling.{IsFalling}
use Rattle.longest_path.proofs.Cells.{alike_cell, alike_sym, marked_cell}
use Rattle.longest_path.proofs.Agendas.{count_taken}
use Rattle.longest_path.proofs.Working.{visit_cell, cell_visit}
use Rattle.longest_path.proofs.Lowering.{lower_ends}
use Rattle.longest_path.proofs.Falling.{falling_begins, falling_taken}
use Rattle.longest_path.proofs.settling.settle.Goals as goal

pub add-requires : goal.add-requires
add-requires c = alike_cell c.args.rows.now c.args.waiting.now c.args.head c.requires.alike (visit_cell c.args.view.now.graph c.args.rows.now c.args.head c.requires.rows c.requires.there)

pub loop-v-init : goal.loop-v-init
loop-v-init c =
    let g = c.args.view.now.graph in
    let x = c.args.fleet.now in
    let order = order_in c.args.view.now in
    subst (λ (m : List (List Bool)). IsFalling g x order c.args.rows.now m (Marked m)) (sym c.add.ensures)
    (falling_begins g x c.requires.state order c.requires.closed c.args.rows.now c.args.waiting.now c.args.head c.requires.rows c.requires.alike c.requires.small c.requires.none c.requires.there c.requires.ahead c.requires.added)

pub look_again-requires-clause-there : goal.look_again-requires-clause-there
look_again-requires-clause-there c =
    let i = c.loop-v.invariant in
    let v = c.in-Some.v in
    cell_visit c.args.view.now.graph c.loop-v.rows v i.are (alike_cell c.loop-v.waiting c.loop-v.rows v (alike_sym c.loop-v.rows c.loop-v.waiting i.alike) (marked_cell c.loop-v.waiting v c.in-Some.ensures.some))

pub look_again-requires-clause-falling : goal.look_again-requires-clause-falling
look_again-requires-clause-falling c =
    let g = c.args.view.now.graph in
    let x = c.args.fleet.now in
    let order = order_in c.args.view.now in
    let v = c.in-Some.v in
    let marks = c.loop-v.waiting in
    let here = c.in-Some.ensures.some in
    subst (λ (m : List (List Bool)). IsFalling g x order c.loop-v.rows m (λ w. Marked m w ⊎ (w ≡ v))) (sym c.in-Some.ensures.rest)
    (falling_taken g x c.requires.state order c.requires.closed c.loop-v.rows marks v here (marked_cell marks v here) c.loop-v.invariant)

pub loop-v-smaller : goal.loop-v-smaller
loop-v-smaller c =
    let v = c.in-Some.v in
    let marks = c.loop-v.waiting in
    let here = c.in-Some.ensures.some in
    let e = ap (λ (m : List (List Bool)). mark_count m) c.in-Some.ensures.rest in
    omega (arith, e, count_taken marks v (marked_cell marks v here) here, c.look_again.ensures.less)

pub returns-clause-least : goal.returns-clause-least
returns-clause-least c =
    lower_ends c.args.view.now.graph c.args.fleet.now (order_in c.args.view.now) (tick_in c.loop-v.rows) (Marked c.loop-v.waiting) c.loop-v.invariant.lowering
    (λ v m. let z = c.in_default.ensures.none v in cc)
