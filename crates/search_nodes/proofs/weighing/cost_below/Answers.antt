use Rattle.std.proofs.Common.{arith}
use Rattle.fleet_base.specs.Schedule.{IsLeastSchedule, end_sum_of}
use Rattle.fleet_base.proofs.Costs.{one_cost, cost_of_least}
use Rattle.plan_graph.specs.Views.{order_in}
use Rattle.longest_path.specs.Ticks.{schedule_in}
use Rattle.longest_path.proofs.Outcomes.{where_ok}
use Rattle.search_nodes.proofs.weighing.cost_below.Goals as goal

-- a view with a cycle is not sound
pub returns-then-is_err-clause-dear : goal.returns-then-is_err-clause-dear
returns-then-is_err-clause-dear c = λ sound k is. absurd (c.earliest.ensures.cyclic.0 (let t = c.if-is_err.true in let v = c.is_err.ensures.value in cc) sound.list sound.sorted)

pub returns-else-cost-bound-clause-dear : goal.returns-else-cost-bound-clause-dear
returns-else-cost-bound-clause-dear c =
    let g = c.args.view.now.graph in
    let x = c.args.fleet.now in
    let order = order_in c.args.view.now in
    let t = schedule_in c.earliest.new.ticks in
    let least : IsLeastSchedule g x order t = where_ok (IsLeastSchedule g x order t) c.earliest.result (λ e. absurd (let z = c.if-is_err.false in let y = e in cc)) c.earliest.ensures.least in
    λ sound k is.
    let one = one_cost g x order k (end_sum_of g t) is (cost_of_least g x order t least) in
    omega (arith, one, c.end_sum-cost.ensures.sum g c.earliest.ensures.room, c.if-cost-bound.false)
