-- What is written of the node at a place.
use Rattle.std.proofs.Common.{ℕ, ◌≡◌, ◌≤◌, List, [], ◌∷◌, ◌++◌, sym, ap, ◌∙◌, subst, Option}
use Rattle.fleet_base.specs.declared.order.PairId.{PairId}
use Rattle.fleet_base.specs.Order.{Graph}
use Rattle.fleet_base.specs.State.{FleetState}
use Rattle.cert_tree.specs.declared.node.Node.{Node}
use Rattle.cert_tree.specs.declared.node.Node.TheVariants.{Bound}
use Rattle.cert_tree.specs.Decisions.{Decision}
use Rattle.order_choice.specs.declared.made.MadeNode.{MadeNode}
use Rattle.order_choice.specs.declared.made.Stand.{Stand}
use Rattle.order_choice.specs.declared.made.Stand.TheVariants.{Waiting, Expanded}
use Rattle.order_choice.specs.Searching.{forced_on, EachOnLine, IsMadeRight, StandsSo}
use Rattle.search_nodes.specs.Making.{Making}
use Rattle.search_line.specs.Lines.{Numbered, nodes_on, IsAt, IsOn, HasCost, HasCostAt}
use Rattle.bound_search.specs.UnderWay.{IsUnderWay}
use Rattle.bound_search.specs.Walking.{IsWrittenAs, IsBoundAt}
use Rattle.bound_search.specs.Walking.IsWrittenAs.{bound, cut}
use Rattle.bound_search.proofs.Places.{way_to}
use Rattle.bound_search.proofs.Steps.{meets_at, cost_relaxed}

-- a node of this number is this one, wherever it stands
abbrev pub IsEach : List Numbered → ℕ → MadeNode → Type 0
IsEach line number now = (front back : List Numbered) (node : MadeNode) → line ≡ front ++ record { number = number; node = node } ∷ back → now ≡ node

-- so it stands as it does
pub stand_is : (line : List Numbered) (number : ℕ) (now node : MadeNode) (way : List Decision) (s : Stand) → IsEach line number now → now.stand ≡ s → IsAt line number node way → node.stand ≡ s
stand_is line number now node way s each e at = sym (ap (λ (n : MadeNode). n.stand) (each at.front at.back node at.place)) ∙ e

-- a node with a relaxed cost has a place where it has one
pub has_cost_at : (meets : List Decision → MadeNode → Type 0) (line : List Numbered) (number : ℕ) (now : MadeNode) (s : Stand) → IsOn line number → EachOnLine meets (nodes_on line) ([] ∷ []) → IsEach line number now → now.stand ≡ s → HasCost s → HasCostAt line number
has_cost_at meets line number now s on e each is has =
    let w = way_to meets line on.front on.back (record { number = number; node = on.node }) on.place e in
    record {
      node = on.node;
      way = w.0;
      there = record { front = on.front; back = on.back; more = w.1; place = on.place; ways = w.2 };
      stand = subst (λ (t : Stand). HasCost t) (sym is ∙ ap (λ (n : MadeNode). n.stand) (each on.front on.back on.node on.place)) has;
    }

-- what is written as one thing is so of another that is the same
pub written_same : (g : Graph) (x : FleetState) (best : ℕ) (way : List Decision) (s t : Stand) (n o : Node) (j k : ℕ) → t ≡ s → o ≡ n → k ≡ j → IsWrittenAs g x best way s n j → IsWrittenAs g x best way t o k
written_same g x best way s t n o j k e f h w =
    subst (λ (u : Stand). IsWrittenAs g x best way u o k) (sym e) (subst (λ (m : Node). IsWrittenAs g x best way s m k) (sym f) (subst (λ (i : ℕ). IsWrittenAs g x best way s n i) (sym h) w))

module _ (m : Making) (line : List Numbered) (place : Option ℕ) (expanded number : ℕ) (node : MadeNode) (way : List Decision) (u : IsUnderWay m line place expanded) (at : IsAt line number node way) (written : Node) (b : IsBoundAt m line number written) where
  right : (s : Stand) → node.stand ≡ s → StandsSo m.graph m.state (forced_on node.forced way) s
  right s e = subst (λ (t : Stand). StandsSo m.graph m.state (forced_on node.forced way) t) e (meets_at (IsMadeRight m.graph m.state) line number node way at u.searched.right).1

  pub as_bound_at : (cost k : ℕ) → node.stand ≡ Waiting cost → m.cost ≤ cost → k ≡ 0 → IsWrittenAs m.graph m.state m.cost (forced_on node.forced way) node.stand written k
  as_bound_at cost k e le z =
      written_same m.graph m.state m.cost (forced_on node.forced way) (Waiting cost) node.stand (Bound b.paths) written 0 k e b.is z
      (bound cost b.paths le (b.bound node way cost at (cost_relaxed m.graph m.state (forced_on node.forced way) cost (right (Waiting cost) e)) le) b.written)

  pub as_cut_at : (cost k : ℕ) (q : PairId) → node.stand ≡ Expanded cost q → m.cost ≤ cost → k ≡ 2 → IsWrittenAs m.graph m.state m.cost (forced_on node.forced way) node.stand written k
  as_cut_at cost k q e le z =
      written_same m.graph m.state m.cost (forced_on node.forced way) (Expanded cost q) node.stand (Bound b.paths) written 2 k e b.is z
      (cut cost q b.paths le (b.bound node way cost at (cost_relaxed m.graph m.state (forced_on node.forced way) cost (right (Expanded cost q) e).0) le) b.written)
