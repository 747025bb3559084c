use Rattle.std.proofs.Common.{◌≤◌, sym, subst, arith, length}
use Rattle.plan_graph.specs.Views.{order_in}
use Rattle.longest_path.specs.Falling.{WasAdded}
use Rattle.longest_path.specs.Ticks.{KeptSchedule, schedule_in}
use Rattle.longest_path.proofs.RowCounts.{ticks_kept, room_for}
use Rattle.longest_path.proofs.ticks.Ticks.settle.Goals as goal
use Rattle.fleet_base.specs.VisitRows.{AreRowsFor}

pub settle-requires-clause-added : goal.settle-requires-clause-added
settle-requires-clause-added c =
    let g = c.args.view.now.graph in
    let x = c.args.fleet.now in
    let order = order_in c.args.view.now in
    subst (λ (k : KeptSchedule). WasAdded g x order c.args.head (schedule_in k)) (sym c.self.view_is) c.requires.added

pub invariant_of-self : goal.invariant_of-self
invariant_of-self c =
    let g = c.args.view.now.graph in
    let before : AreRowsFor g c.self.inside.rows = subst (λ (k : KeptSchedule). AreRowsFor g k.ticks) (sym c.self.view_is) c.requires.rows in
    let after = c.settle.ensures.rows in
    let few : length c.settle.new.rows ≤ 256 = omega (arith, before.robots, after.robots, c.self.invariant.few) in
    ticks_kept g c.settle.new.rows c.self.inside.room after few c.settle.ensures.small (room_for g c.self.inside.rows c.self.inside.room before c.self.invariant)
