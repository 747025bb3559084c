use Rattle.std.proofs.Common.{length, arith, refl, ap, subst, ◌≡◌, ◌<◌}
use Rattle.fleet_base.specs.Order.{Graph, IsGraph}
use Rattle.std.specs.Prelude.{slice_index}
use Rattle.std.proofs.lemmas.Bool.{false≢true}
use Rattle.std.proofs.lemmas.List.{get_or_read}
use Rattle.plan_graph.specs.Views.{order_in}
use Rattle.plan_graph.proofs.Steps.{underway_few, room_kept, steps_to_lists, steps_to_waits, closes_cycle, passed_there, passed_here, free_here, blocked_here}
use Rattle.plan_graph.proofs.work.Work.step.Goals as goal
use Rattle.plan_graph.proofs.work.Work.step.Goals.{After-deref}

-- the visit at work is the next one of its robot
visit_at : (c : After-deref) → c.index.result.now ≡ slice_index c.args.self.now.listed.items c.args.robot
visit_at c =
    let inside : c.args.robot < length c.args.self.now.listed.items = omega (arith, c.requires.there.robot, c.requires.work.room.listed, c.args.self.now.listed.ok.0) in
    get_or_read c.args.self.now.listed.items c.args.robot c.index.result.now inside c.index.ensures 0

from_at : (c : After-deref) → c.index-from.result.now ≡ slice_index c.args.self.now.passed.items c.args.robot
from_at c =
    let inside : c.args.robot < length c.args.self.now.passed.items = omega (arith, c.requires.there.robot, c.requires.work.room.passed, c.args.self.now.passed.ok.0) in
    get_or_read c.args.self.now.passed.items c.args.robot c.index-from.result.now inside c.index-from.ensures 0

pub held_back-requires-clause-passed : goal.held_back-requires-clause-passed
held_back-requires-clause-passed c =
    let s = c.args.self.now in
    passed_there c.args.view.now.graph (order_in c.args.view.now) s.listed.items c.deref.result.now c.args.robot c.index.result.now c.deref.ensures.value (visit_at c)
    c.index-from.result.now (slice_index s.passed.items c.args.robot) (from_at c) (c.requires.work.underway.behind c.args.robot)

pub list_next-requires-clause-room : goal.list_next-requires-clause-room
list_next-requires-clause-room c =
    let s = c.args.self.now in
    let u = c.requires.work.underway in
    let few = underway_few c.args.view.now s.listed.items s.passed.items s.place.items s.order.items c.args.robot s.waiting.items u c.requires.there in
    omega (arith, few.1, u.working.listing.count, s.order.ok.0, c.requires.work.room.order)

pub close-requires-clause-room : goal.close-requires-clause-room
close-requires-clause-room c =
    let s = c.args.self.now in
    let few = underway_few c.args.view.now s.listed.items s.passed.items s.place.items s.order.items c.args.robot s.waiting.items c.requires.work.underway c.requires.there in
    omega (arith, few.0, s.waiting.ok.0, c.requires.work.room.cycle)

pub wait-requires-clause-room : goal.wait-requires-clause-room
wait-requires-clause-room c =
    let s = c.args.self.now in
    let few = underway_few c.args.view.now s.listed.items s.passed.items s.place.items s.order.items c.args.robot s.waiting.items c.requires.work.underway c.requires.there in
    omega (arith, few.0, s.waiting.ok.0, c.requires.work.room.waiting)

pub returns-in_default : goal.returns-in_default
returns-in_default c =
    let s = c.args.self.now in
    let e = c.list_next.ensures in
    let at = visit_at (goal.at.returns-in_default c).After-deref in
    steps_to_lists c.args.view.now s c.list_next.new.self c.args.robot c.requires.work c.requires.there c.index.result.now c.list_next.result at
    (free_here c.args.view.now.graph (order_in c.args.view.now) s.listed.items c.deref.result.now c.args.robot c.index.result.now c.deref.ensures.value at c.in_default.ensures.free)
    e.order e.listed e.passed e.waiting e.place e.cycle e.room

pub returns-then-is_waiting : goal.returns-then-is_waiting
returns-then-is_waiting c =
    let s = c.args.self.now in
    let at = visit_at (goal.at.returns-then-is_waiting c).After-deref in
    let r = c.requires.work.room in
    closes_cycle c.args.view.now s c.close.new.self c.args.robot c.requires.work c.requires.there c.in-Some.held.pair c.in-Some.held.robot
    (blocked_here c.args.view.now.graph (order_in c.args.view.now) s.listed.items c.deref.result.now c.args.robot c.index.result.now c.deref.ensures.value at c.in-Some.held.pair c.in-Some.held.robot c.in-Some.ensures.held)
    (c.if-is_waiting.ensures.0 refl) c.close.ensures.cycle c.close.ensures.order
    (room_kept c.args.view.now.graph _ c.close.new.self (record { listed = r.listed; passed = r.passed; place = r.place; waiting = r.waiting; cycle = r.cycle; order = r.order }) c.close.ensures.room)

pub returns : goal.returns
returns c =
    let s = c.args.self.now in
    let e = c.wait.ensures in
    let at = visit_at (goal.at.returns c).After-deref in
    let r = c.requires.work.room in
    steps_to_waits c.args.view.now s c.wait.new.self c.args.robot c.requires.work c.requires.there (subst (λ (g : Graph). IsGraph g) c.graph.ensures c.robots-within.ensures.graph) c.in-Some.held.pair c.in-Some.held.robot c.in-Some.held.place
    (blocked_here c.args.view.now.graph (order_in c.args.view.now) s.listed.items c.deref.result.now c.args.robot c.index.result.now c.deref.ensures.value at c.in-Some.held.pair c.in-Some.held.robot c.in-Some.ensures.held)
    (passed_here c.args.view.now.graph (order_in c.args.view.now) s.listed.items c.deref.result.now c.args.robot c.index.result.now c.deref.ensures.value at c.in-Some.held.place c.in-Some.ensures.place)
    (λ h. absurd (false≢true (c.if-is_waiting.ensures.1 h)))
    e.waiting e.place e.order e.cycle e.listed (ap (λ p. p.items) e.passed)
    (room_kept c.args.view.now.graph _ c.wait.new.self (record { listed = r.listed; passed = r.passed; place = r.place; waiting = r.waiting; cycle = r.cycle; order = r.order }) e.room)
