-- What trees show: no lawful schedule has a smaller sum.
use Rattle.std.proofs.Common.{ℕ, ◌≡◌, ◌<◌, ◌≤◌, ◌⊎◌, List, [], ◌∷◌, ◌++◌, Some, None, Option, true, false, Bool, cond, refl, sym, ap, ◌∙◌, subst, inl, inr, arith, eqb}
use Rattle.std.specs.Prelude.{slice_get, Contains}
use Rattle.std.proofs.lemmas.Bool.{eqb-true}
use Rattle.std.proofs.lemmas.List.Elements.{All-contains, Contains-append_cases, Contains-append_left, Contains-append_right}
use Rattle.fleet_base.specs.declared.geometry.Visit.{Visit}
use Rattle.fleet_base.specs.declared.order.Pair.{Pair}
use Rattle.fleet_base.specs.declared.order.PairId.{PairId}
use Rattle.fleet_base.specs.declared.order.Side.{Side}
use Rattle.fleet_base.specs.declared.order.Side.TheVariants.{Lower, Higher}
use Rattle.fleet_base.specs.Order.{Graph, IsVisit, IsCycle, order_of, next_visit, first_visit, second_visit, other_side}
use Rattle.fleet_base.specs.State.{FleetState}
use Rattle.fleet_base.specs.Open.{is_open, KeepsClosed}
use Rattle.fleet_base.specs.Rules.{IsFleetState}
use Rattle.fleet_base.specs.Schedule.{IsLawful, ObeysEdge, ObeysSide, Obeys, end_sum_of}
use Rattle.fleet_base.proofs.Members.{head_in, in_one, in_none}
use Rattle.cert_tree.specs.declared.node.Node.{Node}
use Rattle.cert_tree.specs.declared.node.Node.TheVariants.{Branch, Force, Cyclic, Bound, OpenLeaf}
use Rattle.cert_tree.specs.Decisions.{Decision, side_on, order_on}
use Rattle.cert_tree.specs.Trees.{Tree, EachNode, IsRight, IsClosing, IsOptimalTree, IsSpent, IsSpentTree, branch_to, force_to, left_costs}
use Rattle.cert_tree.specs.Trees.Tree.{Fork, Forced, Refuted, Bounded, Left}
use Rattle.fleet_base.proofs.OpenPairs.{open_listed}
use Rattle.cert_tree.specs.Orders.{ObeysPairs}
use Rattle.cert_tree.proofs.Lawful.{never_round}
use Rattle.cert_tree.proofs.PathBound.{total_below}

-- decisions leave the closed pairs their sides
pub order_keeps : (g : Graph) (x : FleetState) (way : List Decision) → KeepsClosed g x (order_on g x way)
order_keeps g x way q closed = ap (λ b. cond b (side_on way q) (order_of x.sides q)) closed

module _ (g : Graph) (x : FleetState) (state : IsFleetState g x) (s : Visit → ℕ) (lawful : IsLawful g x s) where
  -- a lawful schedule obeys the pairs before any decision
  pub no_decision : ObeysPairs g x (order_on g x []) s
  no_decision q u v e = go (is_open g x q) refl e.sided
    where
      go : (b : Bool) → is_open g x q ≡ b → cond b None (order_of x.sides q) ≡ Some e.side → ObeysEdge x s u v
      go true o k = cc
      go false o k = lawful.closed q u v o (record { pair = e.pair; side = e.side; listed = e.listed; sided = k; tail = e.tail; head = e.head })

  -- where it obeys a further side of a pair, it obeys one decision more
  pub one_more : (way : List Decision) (d : Decision) (pair : Pair) → slice_get g.pairs d.pair ≡ Some pair → ObeysSide x s pair d.side → ObeysPairs g x (order_on g x way) s → ObeysPairs g x (order_on g x (d ∷ way)) s
  one_more way d pair l o rest q u v e = go (is_open g x q) refl e.sided
    where
      same_pair : d.pair ≡ q → d.side ≡ e.side → ObeysEdge x s u v
      same_pair a b =
          let p : pair ≡ e.pair = let k = ap (λ m. slice_get g.pairs m) a in cc in
          let to = subst (λ (r : Pair). ObeysEdge x s (next_visit (first_visit r d.side)) (second_visit r d.side)) p o in
          let to' = subst (λ (z : Side). ObeysEdge x s (next_visit (first_visit e.pair z)) (second_visit e.pair z)) b to in
          subst (λ (w : Visit). ObeysEdge x s w v) (sym e.tail) (subst (λ (w : Visit). ObeysEdge x s (next_visit (first_visit e.pair e.side)) w) (sym e.head) to')

      decided : is_open g x q ≡ true → (b : Bool) → eqb d.pair q ≡ b → cond b (Some d.side) (side_on way q) ≡ Some e.side → ObeysEdge x s u v
      decided opened true t k = same_pair (eqb-true d.pair q t) (let z : d.side ≡ e.side = cc in z)
      decided opened false t k = rest q u v (record { pair = e.pair; side = e.side; listed = e.listed; sided = ap (λ b. cond b (side_on way q) (order_of x.sides q)) opened ∙ k; tail = e.tail; head = e.head })

      go : (b : Bool) → is_open g x q ≡ b → cond b (cond (eqb d.pair q) (Some d.side) (side_on way q)) (order_of x.sides q) ≡ Some e.side → ObeysEdge x s u v
      go false o k = lawful.closed q u v o (record { pair = e.pair; side = e.side; listed = e.listed; sided = k; tail = e.tail; head = e.head })
      go true o k = decided o (eqb d.pair q) refl k

  -- of an open pair it obeys one side
  one_side : (q : ℕ) → is_open g x q ≡ true → (pair : Pair) × (slice_get g.pairs q ≡ Some pair) × (ObeysSide x s pair Lower ⊎ ObeysSide x s pair Higher)
  one_side q o = let l = open_listed g x q o in (l.0, l.1, lawful.either q l.0 o l.1)

  no_cycle_on : (way : List Decision) (cycle : List PairId) → ObeysPairs g x (order_on g x way) s → IsCycle g (order_on g x way) cycle → ⊥
  no_cycle_on way cycle obeys = never_round g x state (order_on g x way) (order_keeps g x way) s lawful.along obeys cycle

  -- so it obeys the side that a cycle forces
  forced : (way : List Decision) (q : PairId) (side : Side) (cycle : List PairId) (pair : Pair) → slice_get g.pairs q.0 ≡ Some pair → ObeysSide x s pair Lower ⊎ ObeysSide x s pair Higher
      → ObeysPairs g x (order_on g x way) s → IsCycle g (order_on g x (force_to q (other_side side) ∷ way)) cycle → ObeysSide x s pair side
  forced way q Lower cycle pair l (inl o) obeys c = o
  forced way q Lower cycle pair l (inr o) obeys c = absurd (no_cycle_on (force_to q Higher ∷ way) cycle (one_more way (force_to q Higher) pair l o obeys) c)
  forced way q Higher cycle pair l (inr o) obeys c = o
  forced way q Higher cycle pair l (inl o) obeys c = absurd (no_cycle_on (force_to q Lower ∷ way) cycle (one_more way (force_to q Lower) pair l o obeys) c)

  -- where every open leaf keeps a sum, the whole tree does
  module _ (cost floor : ℕ) (low : floor ≤ cost) (Leaf : List Decision → Node → Type 0)
      (leaf : (way : List Decision) (v : ℕ) → Leaf way (OpenLeaf v) → ObeysPairs g x (order_on g x way) s → floor ≤ end_sum_of g s) where
    pub tree_below : (tree : Tree) (way : List Decision) → EachNode (IsRight g x cost) way tree → EachNode Leaf way tree → ObeysPairs g x (order_on g x way) s → floor ≤ end_sum_of g s
    tree_below (Fork q lower higher) way r l obeys =
        let p = one_side q.0 r.0.0 in
        go p.2 (λ o. tree_below lower (branch_to q Lower ∷ way) r.1 l.1 (one_more way (branch_to q Lower) p.0 p.1 o obeys)) (λ o. tree_below higher (branch_to q Higher ∷ way) r.2 l.2 (one_more way (branch_to q Higher) p.0 p.1 o obeys))
      where
        go : {P Q : Type 0} → P ⊎ Q → (P → floor ≤ end_sum_of g s) → (Q → floor ≤ end_sum_of g s) → floor ≤ end_sum_of g s
        go (inl o) a b = a o
        go (inr o) a b = b o
    tree_below (Forced q side cycle rest) way r l obeys =
        let p = one_side q.0 r.0.0.0 in
        let o = forced way q side cycle p.0 p.1 p.2 obeys r.0.1 in
        tree_below rest (force_to q side ∷ way) r.1 l.1 (one_more way (force_to q side) p.0 p.1 o obeys)
    tree_below (Refuted cycle) way r l obeys = absurd (no_cycle_on way cycle obeys r)
    tree_below (Bounded paths) way r l obeys =
        let t = total_below g x state (order_on g x way) (order_keeps g x way) s lawful.schedule lawful.along obeys paths r.0 in
        omega (arith, r.1)
    tree_below (Left v) way r l obeys = leaf way v l obeys

-- ---- rules node by node

pub first_rule : (P Q : List Decision → Node → Type 0) (tree : Tree) (way : List Decision) → EachNode (λ w n. P w n × Q w n) way tree → EachNode P way tree
first_rule P Q (Fork q lower higher) way r = (r.0.0, first_rule P Q lower (branch_to q Lower ∷ way) r.1, first_rule P Q higher (branch_to q Higher ∷ way) r.2)
first_rule P Q (Forced q side cycle rest) way r = (r.0.0, first_rule P Q rest (force_to q side ∷ way) r.1)
first_rule P Q (Refuted cycle) way r = r.0
first_rule P Q (Bounded paths) way r = r.0
first_rule P Q (Left v) way r = r.0

pub second_rule : (P Q : List Decision → Node → Type 0) (tree : Tree) (way : List Decision) → EachNode (λ w n. P w n × Q w n) way tree → EachNode Q way tree
second_rule P Q (Fork q lower higher) way r = (r.0.1, second_rule P Q lower (branch_to q Lower ∷ way) r.1, second_rule P Q higher (branch_to q Higher ∷ way) r.2)
second_rule P Q (Forced q side cycle rest) way r = (r.0.1, second_rule P Q rest (force_to q side ∷ way) r.1)
second_rule P Q (Refuted cycle) way r = r.1
second_rule P Q (Bounded paths) way r = r.1
second_rule P Q (Left v) way r = r.1

pub both_rules : (P Q : List Decision → Node → Type 0) (tree : Tree) (way : List Decision) → EachNode P way tree → EachNode Q way tree → EachNode (λ w n. P w n × Q w n) way tree
both_rules P Q (Fork q lower higher) way p r = ((p.0, r.0), both_rules P Q lower (branch_to q Lower ∷ way) p.1 r.1, both_rules P Q higher (branch_to q Higher ∷ way) p.2 r.2)
both_rules P Q (Forced q side cycle rest) way p r = ((p.0, r.0), both_rules P Q rest (force_to q side ∷ way) p.1 r.1)
both_rules P Q (Refuted cycle) way p r = (p, r)
both_rules P Q (Bounded paths) way p r = (p, r)
both_rules P Q (Left v) way p r = (p, r)

-- where a tree is an optimal tree, no lawful schedule has a smaller sum
pub optimal_below : (g : Graph) (x : FleetState) (cost : ℕ) (tree : Tree) (s : Visit → ℕ) → IsFleetState g x → IsOptimalTree g x cost tree → IsLawful g x s → cost ≤ end_sum_of g s
optimal_below g x cost tree s state t lawful =
    tree_below g x state s lawful cost cost (omega arith) (λ way node. IsClosing node) (λ way v l o. absurd l) tree []
    (first_rule (IsRight g x cost) (λ way node. IsClosing node) tree [] t) (second_rule (IsRight g x cost) (λ way node. IsClosing node) tree [] t) (no_decision g x state s lawful)

-- ---- spent trees

-- what a search leaves at an open leaf: the number of the leaf, which is at least the least one
abbrev LeavesAtLeast : Graph → FleetState → ℕ → ℕ → List Decision → Node → Type 0
LeavesAtLeast g x cost least way (OpenLeaf v) = IsSpent g x cost least way (OpenLeaf v) × (least ≤ v)
LeavesAtLeast g x cost least way (Branch q) = Unit {0}
LeavesAtLeast g x cost least way (Force q side cycle) = Unit {0}
LeavesAtLeast g x cost least way (Cyclic cycle) = Unit {0}
LeavesAtLeast g x cost least way (Bound paths) = Unit {0}

pub in_left : {X : Type 0} (xs ys : List X) (x : X) → Contains xs x → Contains (xs ++ ys) x
in_left xs ys x h = Contains-append_left xs ys x h

pub in_right : {X : Type 0} (xs ys : List X) (x : X) → Contains ys x → Contains (xs ++ ys) x
in_right xs ys x h = Contains-append_right xs ys x h

leaves : (g : Graph) (x : FleetState) (cost least : ℕ) (tree : Tree) (way : List Decision) → EachNode (IsSpent g x cost least) way tree → ((v : ℕ) → Contains (left_costs tree) v → least ≤ v) → EachNode (LeavesAtLeast g x cost least) way tree
leaves g x cost least (Fork q lower higher) way r all = (
  tt,
  leaves g x cost least lower (branch_to q Lower ∷ way) r.1 (λ v h. all v (in_left (left_costs lower) (left_costs higher) v h)),
  leaves g x cost least higher (branch_to q Higher ∷ way) r.2 (λ v h. all v (in_right (left_costs lower) (left_costs higher) v h)),
)
leaves g x cost least (Forced q side cycle rest) way r all = (tt, leaves g x cost least rest (force_to q side ∷ way) r.1 all)
leaves g x cost least (Refuted cycle) way r all = tt
leaves g x cost least (Bounded paths) way r all = tt
leaves g x cost least (Left v) way r all = (r, all v (head_in v []))

-- every open leaf of a spent tree is below the cost
pub leaf_below : (g : Graph) (x : FleetState) (cost least : ℕ) (tree : Tree) (way : List Decision) → EachNode (IsSpent g x cost least) way tree → (v : ℕ) → Contains (left_costs tree) v → v < cost
leaf_below g x cost least (Fork q lower higher) way r v h =
    go (Contains-append_cases (left_costs lower) (left_costs higher) v h) (λ k. leaf_below g x cost least lower (branch_to q Lower ∷ way) r.1 v k) (λ k. leaf_below g x cost least higher (branch_to q Higher ∷ way) r.2 v k)
  where
    go : {P Q : Type 0} → P ⊎ Q → (P → v < cost) → (Q → v < cost) → v < cost
    go (inl o) a b = a o
    go (inr o) a b = b o
leaf_below g x cost least (Forced q side cycle rest) way r v h = leaf_below g x cost least rest (force_to q side ∷ way) r.1 v h
leaf_below g x cost least (Refuted cycle) way r v h = absurd (in_none v h)
leaf_below g x cost least (Bounded paths) way r v h = absurd (in_none v h)
leaf_below g x cost least (Left w) way r v h = let e = in_one w v h in omega (arith, r.below)

-- what a schedule keeps that is lawful and obeys the decisions
pub obeys_all : (g : Graph) (x : FleetState) (s : Visit → ℕ) (order : ℕ → Option Side) → IsLawful g x s → ObeysPairs g x order s → Obeys g x order s
obeys_all g x s order lawful obeys u v iu iv (inl e) =
    subst (λ (w : Visit). ObeysEdge x s u w) (sym e) (lawful.along u (subst (λ (w : Visit). IsVisit g w) e iv))
obeys_all g x s order lawful obeys u v iu iv (inr e) = obeys e.0 u v e.1

-- where a tree is a spent tree, no lawful schedule has a sum below what is left
pub spent_below : (g : Graph) (x : FleetState) (cost least budget : ℕ) (tree : Tree) (s : Visit → ℕ) → IsFleetState g x → IsSpentTree g x cost least budget tree → IsLawful g x s → least ≤ end_sum_of g s
spent_below g x cost least budget tree s state t lawful =
    tree_below g x state s lawful cost least (let h = leaf_below g x cost least tree [] t.spent least t.reached in omega arith) (LeavesAtLeast g x cost least)
    (λ way v l o. let c = l.0.relaxed.least s lawful.schedule (obeys_all g x s (order_on g x way) lawful o) in omega (arith, l.1)) tree []
    t.right (leaves g x cost least tree [] t.spent (λ v h. at_least v h)) (no_decision g x state s lawful)
  where
    at_least : (v : ℕ) → Contains (left_costs tree) v → least ≤ v
    at_least v h = All-contains (λ w. least ≤ w) (left_costs tree) v t.least_left h
