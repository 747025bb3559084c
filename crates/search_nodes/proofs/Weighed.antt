-- What a written candidate says of the decisions in force.
use Rattle.std.proofs.Common.{ℕ, ◌≡◌, ◌≤◌, List, sym, ap, subst, arith}
use Rattle.fleet_base.specs.Order.{Graph}
use Rattle.fleet_base.specs.State.{FleetState}
use Rattle.fleet_base.specs.Rules.{IsFleetState}
use Rattle.plan_graph.specs.Views.{OrientedGraph, order_in}
use Rattle.longest_path.specs.Decisions.{order_on}
use Rattle.longest_path.specs.Deciding.{order_in_force}
use Rattle.cert_tree.specs.Decisions.{Decision}
use Rattle.order_choice.specs.Candidates.{IsNoCheaper}
use Rattle.order_choice.specs.Searching.{IsBest}
use Rattle.search_nodes.specs.declared.maker.Maker.TheInside.{Inside}
use Rattle.search_nodes.specs.Kept.{making_of, IsMaker}
use Rattle.search_nodes.specs.Making.{Making, best_order, given_on}
use Rattle.search_nodes.specs.Weighing.{IsCandidateOrder, IsDear, IsLeastSum, IsPartedAt, IsViewOf}
use Rattle.search_nodes.proofs.Inside.{from_live, live_rules}
use Rattle.search_nodes.proofs.Parting.{parted_dear}
use Rattle.search_nodes.proofs.Candidates.{view_weighs, cost_weighs, view_best}

module _ (m : Inside) (i : IsMaker m) (now : Making) (e : making_of m ≡ now) where
  rules_now : IsFleetState now.graph now.state
  rules_now = from_live m i now e (λ g x ds. IsFleetState g x) (live_rules m i now e)

  -- a candidate that parts mates needs not be written
  pub parted_now : (q : ℕ) → IsPartedAt m.live.graph m.live.state (order_in_force m.live) q → (cost : ℕ) (way : List Decision) → now.decisions ≡ given_on way → IsNoCheaper now.graph now.state cost way
  parted_now q parted cost way on = parted_dear now.graph now.state rules_now now.decisions q (from_live m i now e (λ g x ds. IsPartedAt g x (order_on g x ds) q) parted) way on cost

  module _ (view : OrientedGraph) (is : IsViewOf m.live.graph view) (candidate : IsCandidateOrder m.live.graph m.live.state (order_in_force m.live) (order_in view)) where
    candidate_now : IsCandidateOrder now.graph now.state (order_on now.graph now.state now.decisions) (order_in view)
    candidate_now = from_live m i now e (λ g x ds. IsCandidateOrder g x (order_on g x ds) (order_in view)) candidate

    -- what is found of the view
    found : (P : Graph → FleetState → Type 0) → P view.graph m.fleet.now → P now.graph now.state
    found P h = from_live m i now e (λ g x ds. P g x) (subst (λ (g : Graph). P g m.live.state) is.graph (subst (λ (x : FleetState). P view.graph x) (sym i.live_state) h))

    -- where it is dear
    pub dear_now : (cost : ℕ) → IsDear view.graph m.fleet.now (order_in view) cost → (way : List Decision) → now.decisions ≡ given_on way → IsNoCheaper now.graph now.state cost way
    dear_now cost dear way on = view_weighs now.graph now.state rules_now now.decisions (order_in view) candidate_now way on cost (found (λ g x. IsDear g x (order_in view) cost) dear)

    module _ (cost : ℕ) (sum : IsLeastSum view.graph m.fleet.now (order_in view) cost) where
      sum_now : IsLeastSum now.graph now.state (order_in view) cost
      sum_now = found (λ g x. IsLeastSum g x (order_in view) cost) sum

      -- where it costs so much
      pub cost_now : (way : List Decision) → now.decisions ≡ given_on way → IsNoCheaper now.graph now.state cost way
      cost_now way on = cost_weighs now.graph now.state rules_now now.decisions (order_in view) candidate_now way on cost sum_now.ticks sum_now.least (omega (arith, sum_now.sum_is))

      -- it may become the best order
      pub best_now : cost ≤ m.cost → IsBest m.graph.now m.fleet.now (order_in view) cost
      best_now le = subst (λ (n : Making). IsBest n.graph n.state (order_in view) cost) (sym e) (subst (λ (c : ℕ). IsBest now.graph now.state (order_in view) c) sum_now.sum_is (view_best now.graph now.state rules_now now.decisions (order_in view) candidate_now (best_order now) now.cost sum_now.ticks old sum_now.least (let a = ap (λ (n : Making). n.cost) e in omega (arith, le, sum_now.sum_is, a))))
        where
          old : IsBest now.graph now.state (best_order now) now.cost
          old = subst (λ (n : Making). IsBest n.graph n.state (best_order n) n.cost) e i.best
