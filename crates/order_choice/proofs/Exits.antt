-- What a search shows when it ends: an optimal choice where nothing is left, and a spent one where the budget is.
use Rattle.std.proofs.Common.{ℕ, ◌≡◌, ◌+◌, ◌<◌, ◌≤◌, ◌⊎◌, List, [], ◌∷◌, ◌++◌, Some, get_or, refl, sym, ap, ◌∙◌, subst, inl, inr, arith, map}
use Rattle.std.specs.Prelude.{Contains, All}
use Rattle.std.proofs.lemmas.Option.{slice_get-get_or}
use Rattle.fleet_base.specs.declared.geometry.Visit.{Visit}
use Rattle.fleet_base.specs.declared.order.PairId.{PairId}
use Rattle.fleet_base.specs.Order.{Graph, IsVisit, next_visit}
use Rattle.fleet_base.specs.State.{FleetState}
use Rattle.fleet_base.specs.Rules.{IsFleetState}
use Rattle.fleet_base.specs.Schedule.{ObeysEdge, IsLeastSchedule, IsCost}
use Rattle.fleet_base.proofs.Costs.{cost_of_least}
use Rattle.fleet_base.proofs.Edges.{head_there}
use Rattle.fleet_base.proofs.Members.{head_in, tail_in, in_cons, in_none, element_at}
use Rattle.cert_tree.specs.declared.node.Node.{Node}
use Rattle.cert_tree.specs.declared.node.Node.TheVariants.{Branch, Force, Cyclic, Bound, OpenLeaf}
use Rattle.cert_tree.specs.Decisions.{Decision, order_on, IsFree}
use Rattle.cert_tree.specs.Orders.{ObeysPairs}
use Rattle.cert_tree.specs.Trees.{IsRight, IsClosing, IsSpent, IsAcyclic, left_costs}
use Rattle.cert_tree.specs.Preorder.{branches_in, left_in}
use Rattle.cert_tree.proofs.EdgeLaws.{visit_before}
use Rattle.cert_tree.proofs.Lawful.{listed}
use Rattle.cert_tree.proofs.Preorder.{whole_tree, branches_of_tree, left_of_tree}
use Rattle.cert_tree.proofs.TreeBound.{order_keeps, first_rule, second_rule, optimal_below}
use Rattle.cert_tree.proofs.Walks.{tail_there}
use Rattle.fleet_base.specs.Groups.{AreMates}
use Rattle.cert_tree.specs.GroupRules.{KeepsGroups}
use Rattle.order_choice.specs.Candidates.{IsNoCheaper}
use Rattle.order_choice.specs.Choices.{IsWeighed, IsOptimalChoice, IsSpentChoice}
use Rattle.order_choice.specs.declared.made.Forcing.{Forcing}
use Rattle.order_choice.specs.declared.made.MadeNode.{MadeNode}
use Rattle.order_choice.specs.Searching.{EachOnLine, IsRelaxed, StandsSo, IsMadeRight, IsMadeDear, AreParted, expanded_in}
use Rattle.order_choice.specs.declared.made.Stand.TheVariants.{Round, Waiting, Expanded}
use Rattle.order_choice.specs.Writing.{behind, forced_nodes, IsWrittenOf}
use Rattle.order_choice.specs.Writing.IsWrittenOf.{ended, as_cyclic, as_open, as_bound, as_cut, as_branch}
use Rattle.order_choice.proofs.Candidates.{below_has_conflict}
use Rattle.order_choice.proofs.ForcedSides.{mates_force, group_left, new_group}
use Rattle.order_choice.proofs.Written.{written_meets, written_ends, written_branches, forced_branches}

module _ (g : Graph) (x : FleetState) (state : IsFleetState g x) where
  -- a part decision with a least schedule has no cycle
  pub acyclic : (way : List Decision) (s : Visit → ℕ) → IsLeastSchedule g x (order_on g x way) s → IsAcyclic g x way
  acyclic way s least = let l = listed g x state (order_on g x way) (order_keeps g x way) s goes pairs in record { list = l.0; sorted = l.1 }
    where
      goes : (v : Visit) → IsVisit g (next_visit v) → ObeysEdge x s v (next_visit v)
      goes v there = least.obeys v (next_visit v) (visit_before g v.robot (v.index + 1) v.index there (omega arith)) there (inl refl)

      pairs : ObeysPairs g x (order_on g x way) s
      pairs q u v e = least.obeys u v (tail_there g x state (order_on g x way) (order_keeps g x way) q u v e) (head_there g (order_on g x way) q u v state.fleet.graph e) (inr (q, e))

  pub relaxed_cost : (way : List Decision) (cost : ℕ) (r : IsRelaxed g x way cost) → IsCost g x (order_on g x way) cost
  relaxed_cost way cost r = subst (λ (c : ℕ). IsCost g x (order_on g x way) c) r.sum (cost_of_least g x (order_on g x way) r.ticks r.least)

  pub force_right : (best : ℕ) (way : List Decision) (f : Forcing) → IsFree g x way f.pair.0 → AreMates g f.mate.0 f.pair.0 → order_on g x way f.mate.0 ≡ Some f.side → IsRight g x best way (Force f.pair f.side (f.mate ∷ f.pair ∷ []))
  force_right best way f free mates s = (free, mates_force g x way f.mate f.pair f.side state free mates s)

  -- ---- nothing is left

  pub optimal_exit : (budget best : ℕ) (line : List MadeNode) (nodes : List Node) → expanded_in line ≤ budget → EachOnLine (IsMadeRight g x) line ([] ∷ []) → EachOnLine (IsMadeDear g x best) line ([] ∷ [])
      → IsWrittenOf g x best (λ c. ⊥) (λ c. Unit {0}) line ([] ∷ []) nodes → IsOptimalChoice g x budget best nodes
  optimal_exit budget best line nodes within right dear w =
      let t = whole_tree (λ way n. IsRight g x best way n × IsClosing n) nodes
      (written_meets g x best (λ c. ⊥) (λ c. Unit {0}) (λ way n. IsRight g x best way n × IsClosing n)
      (λ way f free mates s. (force_right best way f free mates s, tt))
      (λ way cycle c. (c, tt))
      (λ way paths b p. (b, tt))
      (λ way cost r d lt none. absurd none)
      (λ way cost q r d lt u. ((r.1 r.0.ticks r.0.least).free, tt))
      line ([] ∷ []) nodes w right dear)
      (written_ends g x best (λ c. ⊥) (λ c. Unit {0}) line ([] ∷ []) nodes w) in
      let b = written_branches g x best (λ c. ⊥) (λ c. Unit {0}) line ([] ∷ []) nodes w in
      let c = branches_of_tree t.0 in
      let e = ap branches_in t.1 in
      record { bound = λ s lawful. optimal_below g x best t.0 s state t.2 lawful; tree = t.0; nodes = t.1; right = t.2; branches = omega (arith, within, b, c, e) }

-- ---- the budget is spent

forced_lefts : (fs : List Forcing) (rest : List Node) → left_in (forced_nodes fs ++ rest) ≡ left_in rest
forced_lefts [] rest = refl
forced_lefts (f ∷ fs) rest = forced_lefts fs rest

module _ (g : Graph) (x : FleetState) (best least level : ℕ) (low : level ≤ least) (below : least < best) where
  abbrev IsSpentLine : List MadeNode → List (List Decision) → List Node → Type 0
  IsSpentLine line ways nodes = IsWrittenOf g x best (λ c. least ≤ c) (λ c. c ≤ least) line ways nodes

  -- as many branches as were expanded
  all_branches : (line : List MadeNode) (ways : List (List Decision)) (nodes : List Node) → IsWrittenOf g x best (λ c. least ≤ c) (λ c. c ≤ least) line ways nodes → AreParted level line → branches_in nodes ≡ expanded_in line
  all_branches _ _ _ ended p = refl
  all_branches _ _ _ (as_cyclic forced cycle line way ways nodes w) p = let f = forced_branches forced (Cyclic cycle ∷ nodes) in let h = all_branches line ways nodes w p.1 in omega (arith, f, h)
  all_branches _ _ _ (as_open forced cost line way ways nodes lt left w) p = let f = forced_branches forced (OpenLeaf cost ∷ nodes) in let h = all_branches line ways nodes w p.1 in omega (arith, f, h)
  all_branches _ _ _ (as_bound forced cost line way ways paths nodes le b pr w) p = let f = forced_branches forced (Bound paths ∷ nodes) in let h = all_branches line ways nodes w p.1 in omega (arith, f, h)
  all_branches _ _ _ (as_cut forced cost q line way ways paths nodes le b pr w) p = absurd (omega (arith, le, p.0, low, below))
  all_branches _ _ _ (as_branch forced cost q line way ways nodes lt branched w) p =
      let f = forced_branches forced (Branch q ∷ nodes) in
      let h = all_branches line _ nodes w p.1 in
      omega (arith, f, h)

  -- the numbers of the open leaves are at least this one
  lefts_above : (line : List MadeNode) (ways : List (List Decision)) (nodes : List Node) → IsWrittenOf g x best (λ c. least ≤ c) (λ c. c ≤ least) line ways nodes → (v : ℕ) → Contains (left_in nodes) v → least ≤ v
  lefts_above _ _ _ ended v c = absurd (in_none v c)
  lefts_above _ _ _ (as_cyclic forced cycle line way ways nodes w) v c = lefts_above line ways nodes w v (subst (λ (vs : List ℕ). Contains vs v) (forced_lefts forced (Cyclic cycle ∷ nodes)) c)
  lefts_above _ _ _ (as_open forced cost line way ways nodes lt left w) v c = go (in_cons cost (left_in nodes) v (subst (λ (vs : List ℕ). Contains vs v) (forced_lefts forced (OpenLeaf cost ∷ nodes)) c)) (lefts_above line ways nodes w v)
    where
      go : (cost ≡ v) ⊎ Contains (left_in nodes) v → (Contains (left_in nodes) v → least ≤ v) → least ≤ v
      go (inl e) f = omega (arith, left, e)
      go (inr k) f = f k
  lefts_above _ _ _ (as_bound forced cost line way ways paths nodes le b pr w) v c = lefts_above line ways nodes w v (subst (λ (vs : List ℕ). Contains vs v) (forced_lefts forced (Bound paths ∷ nodes)) c)
  lefts_above _ _ _ (as_cut forced cost q line way ways paths nodes le b pr w) v c = lefts_above (behind 2 line) ways nodes w v (subst (λ (vs : List ℕ). Contains vs v) (forced_lefts forced (Bound paths ∷ nodes)) c)
  lefts_above _ _ _ (as_branch forced cost q line way ways nodes lt branched w) v c = lefts_above line _ nodes w v (subst (λ (vs : List ℕ). Contains vs v) (forced_lefts forced (Branch q ∷ nodes)) c)

  -- this one is among them, if a node waits with it
  least_left : (line : List MadeNode) (ways : List (List Decision)) (nodes : List Node) → IsWrittenOf g x best (λ c. least ≤ c) (λ c. c ≤ least) line ways nodes → AreParted level line
      → Contains (map (λ n. n.stand) line) (Waiting least) → Contains (left_in nodes) least
  least_left _ _ _ ended p c = absurd (in_none (Waiting least) c)
  least_left _ _ _ (as_cyclic forced cycle line way ways nodes w) p c = subst (λ (vs : List ℕ). Contains vs least) (sym (forced_lefts forced (Cyclic cycle ∷ nodes))) (go (in_cons (Round cycle) (map (λ (n : MadeNode). n.stand) line) (Waiting least) c) (least_left line ways nodes w p.1))
    where
      go : (Round cycle ≡ Waiting least) ⊎ Contains (map (λ (n : MadeNode). n.stand) line) (Waiting least) → (Contains (map (λ (n : MadeNode). n.stand) line) (Waiting least) → Contains (left_in nodes) least) → Contains (left_in nodes) least
      go (inl e) f = cc
      go (inr k) f = f k
  least_left _ _ _ (as_open forced cost line way ways nodes lt left w) p c = subst (λ (vs : List ℕ). Contains vs least) (sym (forced_lefts forced (OpenLeaf cost ∷ nodes))) (go (in_cons (Waiting cost) (map (λ (n : MadeNode). n.stand) line) (Waiting least) c) (least_left line ways nodes w p.1))
    where
      go : (Waiting cost ≡ Waiting least) ⊎ Contains (map (λ (n : MadeNode). n.stand) line) (Waiting least) → (Contains (map (λ (n : MadeNode). n.stand) line) (Waiting least) → Contains (left_in nodes) least) → Contains (cost ∷ left_in nodes) least
      go (inl e) f = let same : cost ≡ least = cc in subst (λ (v : ℕ). Contains (cost ∷ left_in nodes) v) same (head_in cost (left_in nodes))
      go (inr k) f = tail_in cost (left_in nodes) least (f k)
  least_left _ _ _ (as_bound forced cost line way ways paths nodes le b pr w) p c = subst (λ (vs : List ℕ). Contains vs least) (sym (forced_lefts forced (Bound paths ∷ nodes))) (go (in_cons (Waiting cost) (map (λ (n : MadeNode). n.stand) line) (Waiting least) c) (least_left line ways nodes w p.1))
    where
      go : (Waiting cost ≡ Waiting least) ⊎ Contains (map (λ (n : MadeNode). n.stand) line) (Waiting least) → (Contains (map (λ (n : MadeNode). n.stand) line) (Waiting least) → Contains (left_in nodes) least) → Contains (left_in nodes) least
      go (inl e) f = let same : cost ≡ least = cc in absurd (omega (arith, le, below, same))
      go (inr k) f = f k
  least_left _ _ _ (as_cut forced cost q line way ways paths nodes le b pr w) p c = absurd (omega (arith, le, p.0, low, below))
  least_left _ _ _ (as_branch forced cost q line way ways nodes lt branched w) p c = subst (λ (vs : List ℕ). Contains vs least) (sym (forced_lefts forced (Branch q ∷ nodes))) (go (in_cons (Expanded cost q) (map (λ (n : MadeNode). n.stand) line) (Waiting least) c) (least_left line _ nodes w p.1))
    where
      go : (Expanded cost q ≡ Waiting least) ⊎ Contains (map (λ (n : MadeNode). n.stand) line) (Waiting least) → (Contains (map (λ (n : MadeNode). n.stand) line) (Waiting least) → Contains (left_in nodes) least) → Contains (left_in nodes) least
      go (inl e) f = cc
      go (inr k) f = f k

  -- what a node of a spent tree meets
  abbrev IsAll : List Decision → Node → Type 0
  IsAll way n = (IsRight g x best way n × IsSpent g x best least way n) × (KeepsGroups g x way n × IsWeighed g x best way n)

  module _ (state : IsFleetState g x) where
    open_meets : (way : List Decision) (cost : ℕ) → IsRelaxed g x way cost → IsNoCheaper g x best way → cost < best → least ≤ cost → IsAll way (OpenLeaf cost)
    open_meets way cost r d lt le =
        let c = below_has_conflict g x way r.ticks best state r.least d (omega (arith, lt, r.sum)) in (
          (tt, record { acyclic = acyclic g x state way r.ticks r.least; relaxed = relaxed_cost g x state way cost r; below = lt; pair = c.0; free = c.1.free }),
          (group_left g x way c.0 r.forced c.1.free, d),
        )

    branch_meets : (way : List Decision) (cost : ℕ) (q : PairId) → StandsSo g x way (Expanded cost q) → IsNoCheaper g x best way → cost < best → cost ≤ least → IsAll way (Branch q)
    branch_meets way cost q r d lt le =
        let c = r.1 r.0.ticks r.0.least in (
          (c.free, record { acyclic = acyclic g x state way r.0.ticks r.0.least; ticks = r.0.ticks; schedule = r.0.least; below = omega (arith, lt, r.0.sum); within = omega (arith, le, r.0.sum); conflict = c.neither }),
          (new_group g x way q.0 r.0.forced c.free, d),
        )

    pub spent_exit : (budget : ℕ) (line : List MadeNode) (nodes : List Node) → expanded_in line ≡ budget → AreParted level line → Contains (map (λ n. n.stand) line) (Waiting least) → EachOnLine (IsMadeRight g x) line ([] ∷ []) → EachOnLine (IsMadeDear g x best) line ([] ∷ [])
        → IsWrittenOf g x best (λ c. least ≤ c) (λ c. c ≤ least) line ([] ∷ []) nodes → IsSpentChoice g x budget best least nodes
    spent_exit budget line nodes count parted waits right dear w =
        let t = whole_tree IsAll nodes
        (written_meets g x best (λ c. least ≤ c) (λ c. c ≤ least) IsAll
        (λ way f free mates s. ((force_right g x state best way f free mates s, tt), (tt, tt)))
        (λ way cycle c. ((c, tt), (tt, tt)))
        (λ way paths b p. ((b, tt), (tt, tt)))
        open_meets branch_meets
        line ([] ∷ []) nodes w right dear)
        (written_ends g x best (λ c. least ≤ c) (λ c. c ≤ least) line ([] ∷ []) nodes w) in
        let a = first_rule (λ way n. IsRight g x best way n × IsSpent g x best least way n) (λ way n. KeepsGroups g x way n × IsWeighed g x best way n) t.0 [] t.2 in
        let b = second_rule (λ way n. IsRight g x best way n × IsSpent g x best least way n) (λ way n. KeepsGroups g x way n × IsWeighed g x best way n) t.0 [] t.2 in
        let lefts : left_in nodes ≡ left_costs t.0 = ap left_in t.1 ∙ left_of_tree t.0 in
        record {
          tree = t.0;
          nodes = t.1;
          right = record {
            right = first_rule (IsRight g x best) (IsSpent g x best least) t.0 [] a;
            spent = second_rule (IsRight g x best) (IsSpent g x best least) t.0 [] a;
            branches = sym (branches_of_tree t.0) ∙ ap branches_in (sym t.1) ∙ all_branches line ([] ∷ []) nodes w parted ∙ count;
            reached = subst (λ (vs : List ℕ). Contains vs least) lefts (least_left line ([] ∷ []) nodes w parted waits);
            least_left = subst (λ (vs : List ℕ). All (λ v. least ≤ v) vs) lefts (λ k d h. lefts_above line ([] ∷ []) nodes w (get_or (left_in nodes) k d) (element_at (left_in nodes) k (get_or (left_in nodes) k d) (slice_get-get_or (left_in nodes) k d h)));
          };
          grouped = first_rule (KeepsGroups g x) (IsWeighed g x best) t.0 [] b;
          weighed = second_rule (KeepsGroups g x) (IsWeighed g x best) t.0 [] b;
        }
