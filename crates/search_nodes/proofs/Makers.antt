-- What a maker begins with, and what it does with a view's least schedule.
use Rattle.std.proofs.Common.{ℕ, ◌≡◌, ◌↔◌, Option, sym, subst}
use Rattle.std.specs.Prelude.{Result, IsErr, OnOk}
use Rattle.fleet_base.specs.declared.geometry.Visit.{Visit}
use Rattle.fleet_base.specs.declared.order.Side.{Side}
use Rattle.fleet_base.specs.Order.{Graph, IsCyclic}
use Rattle.fleet_base.specs.State.{FleetState, order_at}
use Rattle.fleet_base.specs.Rules.{IsFleetState}
use Rattle.fleet_base.specs.Schedule.{IsCost, IsLeastSchedule, end_sum_of}
use Rattle.fleet_base.proofs.Costs.{one_cost, cost_of_least}
use Rattle.plan_graph.specs.Views.{OrientedGraph, order_in}
use Rattle.longest_path.specs.Ticks.{KeptSchedule, IsKeptFor, schedule_in}
use Rattle.longest_path.specs.Deciding.{IsLeastTick}
use Rattle.longest_path.proofs.LiveLaws.{one_order}
use Rattle.longest_path.proofs.Outcomes.{where_ok}
use Rattle.order_choice.specs.Searching.{IsBest}
use Rattle.order_choice.proofs.Best.{kept_is_best}
use Rattle.search_nodes.specs.Weighing.{IsViewOf, IsLeastSum}

-- the state's order is the best one at first
pub first_best : {A E : Type 0} (g : Graph) (x : FleetState) (best : OrientedGraph) (ticks : KeptSchedule) (cost : ℕ) (result : Result A E) → IsFleetState g x → IsViewOf g best → ((q : ℕ) → order_in best q ≡ order_at g x q)
    → OnOk result (IsLeastSchedule best.graph x (order_in best) (schedule_in ticks)) → IsErr result ↔ IsCyclic best.graph (order_in best) → IsKeptFor best.graph ticks → ((h : Graph) → IsKeptFor h ticks → cost ≡ end_sum_of h (schedule_in ticks)) → IsBest g x (order_in best) cost
first_best g x best ticks cost result state is each least cyclic room sum =
    subst (λ (n : ℕ). IsBest g x (order_in best) n) (sym (sum g kept)) (subst (λ (o : ℕ → Option Side). IsBest g x o (end_sum_of g (schedule_in ticks))) (sym same) (kept_is_best g x (end_sum_of g (schedule_in ticks)) state costs))
  where
    kept : IsKeptFor g ticks
    kept = subst (λ (h : Graph). IsKeptFor h ticks) is.graph room

    same : order_in best ≡ order_at g x
    same = one_order (order_in best) (order_at g x) each

    never : IsCyclic best.graph (order_in best) → ⊥
    never = subst (λ (h : Graph). IsCyclic h (order_in best) → ⊥) (sym is.graph) (subst (λ (o : ℕ → Option Side). IsCyclic g o → ⊥) (sym same) (λ c. c state.order.list state.order.sorted))

    made : IsLeastSchedule best.graph x (order_in best) (schedule_in ticks)
    made = where_ok (IsLeastSchedule best.graph x (order_in best) (schedule_in ticks)) result (λ e. never (cyclic.0 e)) least

    costs : IsCost g x (order_at g x) (end_sum_of g (schedule_in ticks))
    costs = cost_of_least g x (order_at g x) (schedule_in ticks) (subst (λ (o : ℕ → Option Side). IsLeastSchedule g x o (schedule_in ticks)) same (subst (λ (h : Graph). IsLeastSchedule h x (order_in best) (schedule_in ticks)) is.graph made))

-- a tick of the least schedule shows that there is one, whose sum is the cost
pub least_sum : (g : Graph) (x : FleetState) (order : ℕ → Option Side) (v : Visit) (tick sum : ℕ) → IsLeastTick g x order v tick → IsCost g x order sum → IsLeastSum g x order sum
least_sum g x order v tick sum at k = record { ticks = at.schedule; least = at.least; sum_is = one_cost g x order (end_sum_of g at.schedule) sum (cost_of_least g x order at.schedule at.least) k }
