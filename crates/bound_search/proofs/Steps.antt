-- A search begins, goes to a node, and expands one.
use Rattle.std.proofs.Common.{ℕ, ◌≡◌, ◌+◌, ◌^◌, ◌<◌, ◌≤◌, List, [], ◌∷◌, ◌++◌, Option, Some, None, refl, sym, ap, ◌∙◌, subst, arith, length}
use Rattle.std.specs.Prelude.{slice_index_or}
use Rattle.fleet_base.specs.declared.geometry.Visit.{Visit}
use Rattle.fleet_base.specs.declared.order.PairId.{PairId}
use Rattle.fleet_base.specs.declared.order.Side.{Side}
use Rattle.fleet_base.specs.declared.order.Side.TheVariants.{Lower, Higher}
use Rattle.fleet_base.specs.Order.{Graph}
use Rattle.fleet_base.specs.State.{FleetState}
use Rattle.fleet_base.specs.Rules.{IsFleetState}
use Rattle.fleet_base.specs.Schedule.{IsLeastSchedule, IsCost}
use Rattle.fleet_base.proofs.Costs.{cost_of_least}
use Rattle.longest_path.specs.Deciding.{one_more}
use Rattle.cert_tree.specs.Decisions.{Decision, order_on}
use Rattle.cert_tree.specs.Trees.{branch_to}
use Rattle.order_choice.specs.declared.made.MadeNode.{MadeNode}
use Rattle.order_choice.specs.declared.made.Stand.{Stand}
use Rattle.order_choice.specs.declared.made.Stand.TheVariants.{Waiting, Expanded}
use Rattle.order_choice.specs.Candidates.{IsNoCheaper, IsInConflict}
use Rattle.order_choice.specs.Searching.{forced_on, EachOnLine, IsForcedOut, IsRelaxed, StandsSo, IsMadeRight, IsMadeDear, IsWeighedAs, AreAbove, IsBest, IsSearched, IsMade}
use Rattle.order_choice.proofs.Candidates.{below_has_conflict}
use Rattle.order_choice.proofs.Expanding.{searched_none, searched_more}
use Rattle.order_choice.proofs.Lines.{dear_below, met}
use Rattle.search_nodes.specs.Making.{Making, best_order, given_on, IsBack, KeepsBest}
use Rattle.search_line.specs.Lines.{Numbered, nodes_on, first_number, IsAt, IsWaiting, HasCost, HasCostAt}
use Rattle.search_line.specs.Going.{IsInForce, StandsAt}
use Rattle.bound_search.specs.UnderWay.{IsUnderWay, IsNext}
use Rattle.bound_search.proofs.Places.{nodes-append}

-- what is said of two things, and of four, is said of those that are the same
two_same : {A B : Type 0} (P : A → B → Type 0) {a c : A} {b d : B} → a ≡ c → b ≡ d → P a b → P c d
two_same P {c = c} {b = b} e f p = subst (λ y. P c y) f (subst (λ x. P x b) e p)

four_same : {A B C D : Type 0} (P : A → B → C → D → Type 0) {a e : A} {b f : B} {c g : C} {d h : D} → a ≡ e → b ≡ f → c ≡ g → d ≡ h → P a b c d → P e f g h
four_same P {e = e} {f = f} {c = c} {d = d} i j k l p = two_same (λ x y. P e f x y) k l (two_same (λ x y. P x y c d) i j p)

-- what the node at a place meets
pub meets_at : (meets : List Decision → MadeNode → Type 0) (line : List Numbered) (number : ℕ) (node : MadeNode) (way : List Decision) → IsAt line number node way → EachOnLine meets (nodes_on line) ([] ∷ []) → meets way node
meets_at meets line number node way at e =
    met meets (nodes_on at.front) (nodes_on at.back) node ([] ∷ []) way at.more at.ways (subst (λ (l : List MadeNode). EachOnLine meets l ([] ∷ [])) (ap nodes_on at.place ∙ nodes-append at.front (record { number = number; node = node } ∷ at.back)) e)

-- a node that waits is relaxed, and its candidate is no cheaper than the best order
pub relaxed_at : (g : Graph) (x : FleetState) (line : List Numbered) (number cost : ℕ) (w : IsWaiting line number cost) → EachOnLine (IsMadeRight g x) (nodes_on line) ([] ∷ []) → IsRelaxed g x (forced_on w.node.forced w.way) cost
relaxed_at g x line number cost w e = subst (λ (s : Stand). StandsSo g x (forced_on w.node.forced w.way) s) w.stand (meets_at (IsMadeRight g x) line number w.node w.way w.there e).1

dear_at : (g : Graph) (x : FleetState) (best : ℕ) (line : List Numbered) (number cost : ℕ) (w : IsWaiting line number cost) → EachOnLine (IsMadeDear g x best) (nodes_on line) ([] ∷ []) → IsNoCheaper g x best (forced_on w.node.forced w.way)
dear_at g x best line number cost w e = subst (λ (s : Stand). IsWeighedAs g x best (forced_on w.node.forced w.way) s) w.stand (meets_at (IsMadeDear g x best) line number w.node w.way w.there e)

pub waiting_has_cost : (line : List Numbered) (number cost : ℕ) → IsWaiting line number cost → HasCostAt line number
waiting_has_cost line number cost w = record { node = w.node; way = w.way; there = w.there; stand = subst (λ (s : Stand). HasCost s) (sym w.stand) tt }

-- the cost of a node that is relaxed
pub cost_relaxed : (g : Graph) (x : FleetState) (way : List Decision) (cost : ℕ) → IsRelaxed g x way cost → IsCost g x (order_on g x way) cost
cost_relaxed g x way cost r = subst (λ (c : ℕ). IsCost g x (order_on g x way) c) r.sum (cost_of_least g x (order_on g x way) r.ticks r.least)

-- ---- the beginning

pub begun : (g : Graph) (x : FleetState) (m n : Making) (line : List Numbered) (root : MadeNode) → IsFleetState g x → m.graph ≡ g → m.state ≡ x → m.decisions ≡ [] → IsBack m n m.asked → IsMade n.graph n.state n.cost [] root
    → IsBest n.graph n.state (best_order n) n.cost → line ≡ record { number = 0; node = root } ∷ [] → IsUnderWay n line None 0
begun g x m n line root rules eg ex none back made best is = record {
  rules = two_same (λ h y. IsFleetState h y) (sym eg ∙ sym back.graph) (sym ex ∙ sym back.state) rules;
  level = 0;
  searched = subst (λ (l : List Numbered). IsSearched n.graph n.state (nodes_on l) (best_order n) n.cost 0 0) (sym is) (searched_none n.graph n.state root (best_order n) n.cost made best);
  placed = back.decisions ∙ none;
  first = ap first_number is;
  count = ap length is;
  asked = omega arith;
}

-- ---- at another node

pub gone : (m n : Making) (line : List Numbered) (old new : Option ℕ) (expanded : ℕ) → IsUnderWay m line old expanded → KeepsBest m n → StandsAt line new n.decisions → IsUnderWay n line new expanded
gone m n line old new expanded u k placed = record {
  rules = two_same (λ h y. IsFleetState h y) (sym k.graph) (sym k.state) u.rules;
  level = u.level;
  searched = four_same (λ h y (sides : List (Option Side)) c. IsSearched h y (nodes_on line) (λ q. slice_index_or sides q None) c u.level expanded) (sym k.graph) (sym k.state) (sym k.best) (sym k.cost) u.searched;
  placed = placed;
  first = u.first;
  count = u.count;
  asked = omega (arith, u.asked, k.asked);
}

pub stands_at : (m : Making) (line : List Numbered) (number : ℕ) → HasCostAt line number → ((node : MadeNode) (way : List Decision) → IsAt line number node way → m.decisions ≡ given_on (forced_on node.forced way)) → StandsAt line (Some number) m.decisions
stands_at m line number h there = record { node = h.node; way = h.way; there = h.there; same = there h.node h.way h.there }

-- ---- the next node

-- a node that may be expanded has a pair in conflict
pub has_conflict : (m : Making) (line : List Numbered) (place : Option ℕ) (expanded number cost : ℕ) → IsUnderWay m line place expanded → IsNext m line number cost → ((node : MadeNode) (way : List Decision) → IsAt line number node way → m.decisions ≡ given_on (forced_on node.forced way))
    → ((way : List Decision) (s : Visit → ℕ) (q : ℕ) → m.decisions ≡ given_on way → IsLeastSchedule m.graph m.state (order_on m.graph m.state way) s → IsInConflict m.graph m.state way s q → ⊥) → ⊥
has_conflict m line place expanded number cost u next there none =
    let w = next.waits in
    let way = forced_on w.node.forced w.way in
    let r = relaxed_at m.graph m.state line number cost w u.searched.right in
    let c = below_has_conflict m.graph m.state way r.ticks m.cost u.rules r.least (dear_at m.graph m.state m.cost line number cost w u.searched.dear) (omega (arith, next.below, r.sum)) in
    none way r.ticks c.0 (there w.node w.way w.there) r.least c.1

-- ---- one node is expanded

-- the decisions in force are those on a way where forcing is at its end
abbrev pub IsReady : Making → Type 0
IsReady m = (way : List Decision) × (m.decisions ≡ given_on way) × IsForcedOut m.graph m.state way

pub ready : (m : Making) (line : List Numbered) (place : Option ℕ) (expanded number cost : ℕ) → IsUnderWay m line place expanded → IsWaiting line number cost → ((node : MadeNode) (way : List Decision) → IsAt line number node way → m.decisions ≡ given_on (forced_on node.forced way)) → IsReady m
ready m line place expanded number cost u w there = (forced_on w.node.forced w.way, there w.node w.way w.there, (relaxed_at m.graph m.state line number cost w u.searched.right).forced)

pub still_ready : (m n : Making) (count : ℕ) → IsBack m n count → IsReady m → IsReady n
still_ready m n count b r = (r.0, b.decisions ∙ r.1, two_same (λ h y. IsForcedOut h y r.0) (sym b.graph) (sym b.state) r.2)

-- a node that was made right and dear is so beside a cheaper order
lowered : (g : Graph) (x : FleetState) (best less : ℕ) (way : List Decision) (n : MadeNode) → less ≤ best → IsMade g x best way n → IsMade g x less way n
lowered g x best less way n le made = record { fresh = made.fresh; right = made.right; dear = dear_below g x best less way n le made.dear }

three_for_one : (front back : List Numbered) (a b c d : Numbered) → length (front ++ a ∷ b ∷ c ∷ back) ≡ length (front ++ d ∷ back) + 2
three_for_one [] back a b c d = omega arith
three_for_one (n ∷ front) back a b c d = let h = three_for_one front back a b c d in omega arith

same_first : (front back rest : List Numbered) (a b : Numbered) → a.number ≡ b.number → first_number (front ++ a ∷ back) ≡ first_number (front ++ b ∷ rest)
same_first [] back rest a b e = ap Some e
same_first (n ∷ front) back rest a b e = refl

pub expanded_on : (m n o : Making) (old new : List Numbered) (place : Option ℕ) (number cost expanded : ℕ) (q : PairId) (lower higher : MadeNode) → IsUnderWay m old place expanded → place ≡ Some number → IsWaiting old number cost → AreAbove cost (nodes_on old)
    → ((node : MadeNode) (way : List Decision) → IsAt old number node way → m.decisions ≡ given_on (forced_on node.forced way))
    → ((way : List Decision) (s : Visit → ℕ) → m.decisions ≡ given_on way → IsLeastSchedule m.graph m.state (order_on m.graph m.state way) s → IsInConflict m.graph m.state way s q.0)
    → ((way : List Decision) → m.decisions ≡ given_on way → IsForcedOut m.graph m.state way → IsMade n.graph n.state n.cost (branch_to q Lower ∷ way) lower) → IsBack m n (one_more m.asked)
    → ((way : List Decision) → n.decisions ≡ given_on way → IsForcedOut n.graph n.state way → IsMade o.graph o.state o.cost (branch_to q Higher ∷ way) higher) → IsBack n o (one_more n.asked)
    → IsBest o.graph o.state (best_order o) o.cost
    → ((front back : List Numbered) (node : MadeNode) → old ≡ front ++ record { number = number; node = node } ∷ back → new ≡ front ++ record { number = number; node = record node { stand = Expanded cost q } } ∷ record { number = length old; node = lower } ∷ record { number = length old + 1; node = higher } ∷ back)
    → length old < 2 ^ 32 → IsUnderWay o new place (expanded + 1)
expanded_on m n o old new place number cost expanded q lower higher u is_place w above there conflict low back_low high back_high best after few = record {
  rules = two_same (λ h y. IsFleetState h y) to_graph to_state u.rules;
  level = cost;
  searched = two_same (λ h y. IsSearched h y (nodes_on new) (best_order o) o.cost cost (expanded + 1)) to_graph to_state searched;
  placed = subst (λ (p : Option ℕ). StandsAt new p o.decisions) (sym is_place) placed;
  first = ap first_number is ∙ same_first at.front _ at.back _ (record { number = number; node = w.node }) refl ∙ ap first_number (sym at.place) ∙ u.first;
  count =
      let h = three_for_one at.front at.back (record { number = number; node = record w.node { stand = Expanded cost q } }) (record { number = length old; node = lower }) (record { number = length old + 1; node = higher }) (record { number = number; node = w.node }) in
      let i = ap length is in
      let j = ap length at.place in
      omega (arith, h, i, j, u.count);
  asked = omega (arith, u.asked, back_low.asked, back_high.asked, few, u.count);
}
  where
    at : IsAt old number w.node w.way
    at = w.there

    to_graph : m.graph ≡ o.graph
    to_graph = sym back_low.graph ∙ sym back_high.graph

    to_state : m.state ≡ o.state
    to_state = sym back_low.state ∙ sym back_high.state

    way : List Decision
    way = forced_on w.node.forced w.way

    relaxed : IsRelaxed m.graph m.state (forced_on w.node.forced w.way) cost
    relaxed = relaxed_at m.graph m.state old number cost w u.searched.right

    is : new ≡ at.front ++ record { number = number; node = record w.node { stand = Expanded cost q } } ∷ record { number = length old; node = lower } ∷ record { number = length old + 1; node = higher } ∷ at.back
    is = after at.front at.back w.node at.place

    placed : IsInForce new number o.decisions
    placed = record { node = record w.node { stand = Expanded cost q }; way = w.way; there = record { front = at.front; back = _; more = at.more; place = is; ways = at.ways }; same = back_high.decisions ∙ back_low.decisions ∙ there w.node w.way at }

    made_low : IsMade m.graph m.state o.cost (branch_to q Lower ∷ forced_on w.node.forced w.way) lower
    made_low =
        lowered m.graph m.state n.cost o.cost (branch_to q Lower ∷ forced_on w.node.forced w.way) lower back_high.no_dearer
        (two_same (λ h y. IsMade h y n.cost (branch_to q Lower ∷ forced_on w.node.forced w.way) lower) back_low.graph back_low.state (low (forced_on w.node.forced w.way) (there w.node w.way at) relaxed.forced))

    made_high : IsMade m.graph m.state o.cost (branch_to q Higher ∷ forced_on w.node.forced w.way) higher
    made_high =
        two_same (λ h y. IsMade h y o.cost (branch_to q Higher ∷ forced_on w.node.forced w.way) higher) (back_high.graph ∙ back_low.graph) (back_high.state ∙ back_low.state)
        (high (forced_on w.node.forced w.way) (back_low.decisions ∙ there w.node w.way at) (two_same (λ h y. IsForcedOut h y (forced_on w.node.forced w.way)) (sym back_low.graph) (sym back_low.state) relaxed.forced))

    waiting : w.node ≡ record { forced = w.node.forced; stand = Waiting cost }
    waiting = ap (λ (s : Stand). record w.node { stand = s }) w.stand

    old_nodes : nodes_on old ≡ nodes_on at.front ++ record { forced = w.node.forced; stand = Waiting cost } ∷ nodes_on at.back
    old_nodes = ap nodes_on at.place ∙ nodes-append at.front (record { number = number; node = w.node } ∷ at.back) ∙ ap (λ (k : MadeNode). nodes_on at.front ++ k ∷ nodes_on at.back) waiting

    new_nodes : nodes_on new ≡ nodes_on at.front ++ record { forced = w.node.forced; stand = Expanded cost q } ∷ lower ∷ higher ∷ nodes_on at.back
    new_nodes = ap nodes_on is ∙ nodes-append at.front _

    searched : IsSearched m.graph m.state (nodes_on new) (best_order o) o.cost cost (expanded + 1)
    searched =
        subst (λ (l : List MadeNode). IsSearched m.graph m.state l (best_order o) o.cost cost (expanded + 1)) (sym new_nodes)
        (searched_more m.graph m.state (nodes_on at.front) (nodes_on at.back) w.node.forced cost q lower higher w.way at.more (best_order m) (best_order o) m.cost o.cost u.level expanded
        (subst (λ (l : List MadeNode). IsSearched m.graph m.state l (best_order m) m.cost u.level expanded) old_nodes u.searched)
        (subst (λ (l : List MadeNode). AreAbove cost l) old_nodes above)
        at.ways
        (λ s least. conflict (forced_on w.node.forced w.way) s (there w.node w.way at) least)
        made_low made_high
        (omega (arith, back_low.no_dearer, back_high.no_dearer))
        (two_same (λ h y. IsBest h y (best_order o) o.cost) (sym to_graph) (sym to_state) best))
