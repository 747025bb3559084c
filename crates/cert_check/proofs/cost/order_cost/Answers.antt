use Rattle.std.proofs.Common.{List, Option, sym, ◌∙◌, ap, subst, arith}
use Rattle.fleet_base.specs.declared.order.Side.{Side}
use Rattle.fleet_base.specs.Order.{Graph, IsCyclic}
use Rattle.fleet_base.specs.Schedule.{IsLeastSchedule, end_sum_of}
use Rattle.fleet_base.specs.VisitRows.{tick_in, AreRowsFor}
use Rattle.plan_graph.specs.Views.{order_in}
use Rattle.plan_graph.specs.Limits.{IsGraphWithinLimits}
use Rattle.cert_check.specs.Rooms.{Room}
use Rattle.cert_check.specs.Sides.{decided}
use Rattle.cert_check.proofs.CostLaws.{at_order, cost_is_small, cost_is}
use Rattle.cert_check.proofs.RoundLaws.{has_ticks_of, has_ticks_kept}
use Rattle.cert_check.proofs.cost.order_cost.Goals as goal

pub relax-requires-clause-ticks : goal.relax-requires-clause-ticks
relax-requires-clause-ticks c = subst (λ (g : Graph). AreRowsFor g c.scratch.inside.work.ticks) (sym c.graph-graph.ensures) (has_ticks_of c.args.view.now.graph c.scratch.inside.work.ticks (ap (λ (r : Room). r.visits) c.scratch.view_is ∙ c.requires.room.visits))

pub unreachable-requires : goal.unreachable-requires
unreachable-requires c =
    let pairs = ap (λ (r : Room). r.pairs) c.scratch.view_is ∙ c.requires.room.pairs in
    at_order c.args.fleet.now c.deref.result.now (order_in c.args.view.now) (λ g o. IsCyclic g o) c.graph-graph.result.now c.args.view.now.graph c.graph-graph.ensures c.requires.closed (λ q lt. ap (λ (l : List (Option Side)). decided l q) c.deref.ensures.value ∙ c.take_sides.ensures.taken q (omega (arith, lt, pairs))) (c.relax.ensures.cyclic c.if-not-relax.true) c.requires.sound.list c.requires.sound.sorted

pub end_sum-requires-clause-ticks : goal.end_sum-requires-clause-ticks
end_sum-requires-clause-ticks c =
    has_ticks_kept c.graph-graph.result.now c.scratch.inside.work.ticks c.relax.new.ticks (subst (λ (g : Graph). AreRowsFor g c.scratch.inside.work.ticks) (sym c.graph-graph.ensures) (has_ticks_of c.args.view.now.graph c.scratch.inside.work.ticks (ap (λ (r : Room). r.visits) c.scratch.view_is ∙ c.requires.room.visits))) c.relax.ensures.rows

pub overflow_cast-result : goal.overflow_cast-result
overflow_cast-result c =
    let pairs = ap (λ (r : Room). r.pairs) c.scratch.view_is ∙ c.requires.room.pairs in
    let least = at_order c.args.fleet.now c.deref.result.now (order_in c.args.view.now) (λ g o. IsLeastSchedule g c.args.fleet.now o (tick_in c.relax.new.ticks)) c.graph-graph.result.now c.args.view.now.graph c.graph-graph.ensures c.requires.closed (λ q lt. ap (λ (l : List (Option Side)). decided l q) c.deref.ensures.value ∙ c.take_sides.ensures.taken q (omega (arith, lt, pairs))) (c.relax.ensures.least c.if-not-relax.false) in
    let limits = subst (λ (g : Graph). IsGraphWithinLimits g) c.graph-graph.ensures c.robots-within.ensures.limits in
    let small = cost_is_small c.args.view.now.graph c.args.fleet.now (order_in c.args.view.now) c.requires.state limits c.requires.closed c.requires.sound.list c.requires.sound.sorted (tick_in c.relax.new.ticks) least in
    let sum = c.end_sum.ensures ∙ ap (λ (g : Graph). end_sum_of g (tick_in c.relax.new.ticks)) c.graph-graph.ensures in
    omega (arith, small, sum)

pub returns-clause-cost : goal.returns-clause-cost
returns-clause-cost c =
    let pairs = ap (λ (r : Room). r.pairs) c.scratch.view_is ∙ c.requires.room.pairs in
    let least = at_order c.args.fleet.now c.deref.result.now (order_in c.args.view.now) (λ g o. IsLeastSchedule g c.args.fleet.now o (tick_in c.relax.new.ticks)) c.graph-graph.result.now c.args.view.now.graph c.graph-graph.ensures c.requires.closed (λ q lt. ap (λ (l : List (Option Side)). decided l q) c.deref.ensures.value ∙ c.take_sides.ensures.taken q (omega (arith, lt, pairs))) (c.relax.ensures.least c.if-not-relax.false) in
    cost_is c.args.view.now.graph c.args.fleet.now (order_in c.args.view.now) (tick_in c.relax.new.ticks) c.end_sum.result least (c.end_sum.ensures ∙ ap (λ (g : Graph). end_sum_of g (tick_in c.relax.new.ticks)) c.graph-graph.ensures)
