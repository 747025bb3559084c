-- What a search shows when it is over.
use Rattle.std.proofs.Common.{ℕ, ◌≡◌, ◌+◌, ◌*◌, ◌^◌, ◌<◌, ◌≤◌, List, [], ◌∷◌, ◌++◌, length, Option, Some, None, refl, sym, ap, ◌∙◌, subst, arith}
use Rattle.std.specs.Prelude.{All, Contains, map, slice_index_or}
use Rattle.fleet_base.specs.declared.order.Side.{Side}
use Rattle.fleet_base.specs.Groups.{AreOpenGroups}
use Rattle.fleet_base.specs.Order.{Graph}
use Rattle.fleet_base.specs.State.{FleetState}
use Rattle.plan_graph.specs.Views.{OrientedGraph, order_in}
use Rattle.cert_tree.proofs.Branches.{spent_within_groups}
use Rattle.order_choice.specs.declared.outcome.Outcome.{Outcome}
use Rattle.order_choice.specs.declared.outcome.Outcome.TheVariants.{Spent}
use Rattle.cert_tree.specs.declared.node.Node.{Node}
use Rattle.cert_tree.specs.CertText.{IsWritten}
use Rattle.cert_tree.specs.Preorder.{branches_in}
use Rattle.order_choice.specs.declared.made.MadeNode.{MadeNode}
use Rattle.order_choice.specs.declared.made.Stand.{Stand}
use Rattle.order_choice.specs.declared.made.Stand.TheVariants.{Waiting}
use Rattle.order_choice.specs.Choices.{IsChosen, cert_of}
use Rattle.order_choice.specs.Searching.{AreAbove, IsParted, AreParted}
use Rattle.order_choice.proofs.Exits.{optimal_exit, spent_exit}
use Rattle.order_choice.proofs.Printable.{written_printable}
use Rattle.order_choice.proofs.Written.{written_branches}
use Rattle.fleet_base.proofs.Members.{head_in, tail_in}
use Rattle.fleet_base.specs.Open.{KeepsClosed}
use Rattle.search_nodes.specs.Making.{Making, best_order, KeepsBest}
use Rattle.search_line.specs.Lines.{Numbered, nodes_on, IsWaiting}
use Rattle.bound_search.specs.UnderWay.{IsUnderWay, IsOver, outcome_of}
use Rattle.bound_search.specs.Walking.{IsCertOf}
use Rattle.bound_search.proofs.Places.{nodes-append}
use Rattle.bound_search.proofs.Refining.{closed, parted}

-- a node that waits at a place: its stand is on the line, and it costs at least the level
among : (front back : List MadeNode) (n : MadeNode) → Contains (map (λ (k : MadeNode). k.stand) (front ++ n ∷ back)) n.stand
among [] back n = head_in n.stand (map (λ (k : MadeNode). k.stand) back)
among (k ∷ front) back n = tail_in k.stand (map (λ (j : MadeNode). j.stand) (front ++ n ∷ back)) n.stand (among front back n)

parted_at : (level : ℕ) (front back : List MadeNode) (n : MadeNode) → AreParted level (front ++ n ∷ back) → IsParted level n.stand
parted_at level [] back n p = p.0
parted_at level (k ∷ front) back n p = parted_at level front back n p.1

on_line : (line : List Numbered) (number : ℕ) (node : MadeNode) (at : (front : List Numbered) × (back : List Numbered) × (line ≡ front ++ record { number = number; node = node } ∷ back)) → nodes_on line ≡ nodes_on at.0 ++ node ∷ nodes_on at.1
on_line line number node at = ap nodes_on at.2 ∙ nodes-append at.0 (record { number = number; node = node } ∷ at.1)

waits_there : (line : List Numbered) (number cost : ℕ) → IsWaiting line number cost → Contains (map (λ (n : MadeNode). n.stand) (nodes_on line)) (Waiting cost)
waits_there line number cost w =
    subst (λ (s : Stand). Contains (map (λ (n : MadeNode). n.stand) (nodes_on line)) s) w.stand
    (subst (λ (l : List MadeNode). Contains (map (λ (n : MadeNode). n.stand) l) w.node.stand) (sym (on_line line number w.node (w.there.front, w.there.back, w.there.place))) (among (nodes_on w.there.front) (nodes_on w.there.back) w.node))

waits_above : (level : ℕ) (line : List Numbered) (number cost : ℕ) → IsWaiting line number cost → AreParted level (nodes_on line) → level ≤ cost
waits_above level line number cost w p =
    subst (λ (s : Stand). IsParted level s) w.stand
    (parted_at level (nodes_on w.there.front) (nodes_on w.there.back) w.node (subst (λ (l : List MadeNode). AreParted level l) (on_line line number w.node (w.there.front, w.there.back, w.there.place)) p))

-- the best order is chosen
pub chosen : (m : Making) (line : List Numbered) (place : Option ℕ) (expanded budget : ℕ) (cert : List Node) (left : Option ℕ) → IsUnderWay m line place expanded → IsOver m line expanded budget left → IsCertOf m (nodes_on line) ([] ∷ []) cert
    → IsChosen m.graph m.state budget (best_order m) m.cost (outcome_of cert left)
chosen m line place expanded budget cert None u over w =
    let s = u.searched in
    record {
      costs = s.best.costs;
      no_dearer = s.best.no_dearer;
      shown = optimal_exit m.graph m.state u.rules budget m.cost (nodes_on line) cert (omega (arith, s.count, over.1)) s.right s.dear (closed m.graph m.state m.cost (nodes_on line) ([] ∷ []) cert w over.0);
    }
chosen m line place expanded budget cert (Some least) u over w =
    let s = u.searched in
    let next = over.0.1 in
    let low = waits_above u.level line over.0.0 least next.waits s.parted in
    record {
      costs = s.best.costs;
      no_dearer = s.best.no_dearer;
      shown = spent_exit m.graph m.state m.cost least u.level low next.below u.rules budget (nodes_on line) cert (s.count ∙ over.1) s.parted (waits_there line over.0.0 least next.waits) s.right s.dear
          (parted m.graph m.state m.cost u.level least (nodes_on line) ([] ∷ []) cert low w next.least s.parted);
    }

-- the certificate can be printed
pub printable : (m : Making) (line : List Numbered) (place : Option ℕ) (expanded : ℕ) (cert : List Node) → IsUnderWay m line place expanded → IsCertOf m (nodes_on line) ([] ∷ []) cert → All IsWritten cert
printable m line place expanded cert u w = written_printable m.graph m.state m.cost (λ c. Unit {0}) (λ c. Unit {0}) (nodes_on line) cert u.rules.fleet.graph u.searched.right u.searched.dear w

-- two decisions at least were asked for at each of its branches
pub asked_twice : (m : Making) (line : List Numbered) (place : Option ℕ) (expanded : ℕ) (cert : List Node) → IsUnderWay m line place expanded → IsCertOf m (nodes_on line) ([] ∷ []) cert → 2 * branches_in cert ≤ m.asked
asked_twice m line place expanded cert u w =
    let b = written_branches m.graph m.state m.cost (λ c. Unit {0}) (λ c. Unit {0}) (nodes_on line) ([] ∷ []) cert w in
    omega (arith, b, u.searched.count, u.asked)

pub cert_of_outcome : (cert : List Node) (left : Option ℕ) → cert_of (outcome_of cert left) ≡ cert
cert_of_outcome cert None = refl
cert_of_outcome cert (Some least) = refl

-- what is over stays so while the certificate is written
pub over_kept : (m n : Making) (line next : List Numbered) (expanded more budget : ℕ) (left : Option ℕ) → KeepsBest m n → next ≡ line → more ≡ expanded → IsOver m line expanded budget left → IsOver n next more budget left
over_kept m n line next expanded more budget None k same e over = (
  subst (λ (l : List Numbered). AreAbove n.cost (nodes_on l)) (sym same) (subst (λ (c : ℕ). AreAbove c (nodes_on line)) (sym k.cost) over.0),
  omega (arith, over.1, e),
)
over_kept m n line next expanded more budget (Some least) k same e over = (
  (
    over.0.0,
    record {
      waits = subst (λ (l : List Numbered). IsWaiting l over.0.0 least) (sym same) over.0.1.waits;
      least = subst (λ (l : List Numbered). AreAbove least (nodes_on l)) (sym same) over.0.1.least;
      below = (let b = over.0.1.below in omega (arith, b, k.cost));
    },
  ),
  e ∙ over.1,
)

-- a view with the sides of the best order has that order
pub order_is : (m : Making) (view : OrientedGraph) → view.sides ≡ m.best → best_order m ≡ order_in view
order_is m view e = ap {B = ℕ → Option Side} (λ (sides : List (Option Side)). λ (q : ℕ). slice_index_or sides q None) (sym e)

-- the same of the graph, the state, the order, the cost and the outcome as they are answered
pub answered : (g : Graph) (x : FleetState) (m : Making) (budget cost : ℕ) (view : OrientedGraph) (outcome result : Outcome) → m.graph ≡ g → m.state ≡ x → view.sides ≡ m.best → cost ≡ m.cost → result ≡ outcome
    → IsChosen m.graph m.state budget (best_order m) m.cost outcome → IsChosen g x budget (order_in view) cost result
answered g x m budget cost view outcome result eg ex ev ec eo h =
    subst (λ (h : Graph). IsChosen h x budget (order_in view) cost result) eg
    (subst (λ (y : FleetState). IsChosen m.graph y budget (order_in view) cost result) ex
    (subst (λ (o : ℕ → Option Side). IsChosen m.graph m.state budget o cost result) (order_is m view ev)
    (subst (λ (c : ℕ). IsChosen m.graph m.state budget (best_order m) c result) (sym ec) (subst (λ (o : Outcome). IsChosen m.graph m.state budget (best_order m) m.cost o) (sym eo) h))))

pub keeps_closed : (g : Graph) (x : FleetState) (m : Making) (view : OrientedGraph) → m.graph ≡ g → m.state ≡ x → view.sides ≡ m.best → KeepsClosed m.graph m.state (best_order m) → KeepsClosed g x (order_in view)
keeps_closed g x m view eg ex ev h =
    subst (λ (h : Graph). KeepsClosed h x (order_in view)) eg
    (subst (λ (y : FleetState). KeepsClosed m.graph y (order_in view)) ex (subst (λ (o : ℕ → Option Side). KeepsClosed m.graph m.state o) (order_is m view ev) h))

-- a spent one comes only within a small budget
pub spent_within : (g : Graph) (x : FleetState) (order : ℕ → Option Side) (budget cost least : ℕ) (outcome : Outcome) (cert : List Node) (groups : List ℕ) → IsChosen g x budget order cost outcome → outcome ≡ Spent cert least → AreOpenGroups g x groups → budget + 1 < 2 ^ length groups
spent_within g x order budget cost least outcome cert groups h e are =
    let chosen = subst (λ (o : Outcome). IsChosen g x budget order cost o) e h in
    spent_within_groups g x groups cost least budget chosen.shown.tree are chosen.shown.right chosen.shown.grouped
