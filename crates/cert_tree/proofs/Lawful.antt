-- A lawful schedule obeys no cycle.
use Rattle.std.proofs.Common.{ℕ, ◌≡◌, ◌+◌, ◌<◌, ◌≤◌, ◌⊎◌, List, Option, true, false, Bool, cond, refl, sym, ap, ◌∙◌, subst, inl, inr, arith, length, ltb}
use Rattle.std.proofs.lemmas.Bool.{cases_lt, lt-ltb, le-ltb}
use Rattle.fleet_base.specs.declared.geometry.Visit.{Visit}
use Rattle.fleet_base.specs.declared.order.PairId.{PairId}
use Rattle.fleet_base.specs.declared.order.Side.{Side}
use Rattle.fleet_base.specs.Order.{Graph, IsVisit, HasEdge, IsCycle, IsSorted, Before, order_of, next_visit}
use Rattle.fleet_base.specs.State.{FleetState, HasArrived, IsReleased, arrived_count}
use Rattle.fleet_base.specs.Open.{is_open, KeepsClosed}
use Rattle.fleet_base.specs.Rules.{IsFleetState}
use Rattle.fleet_base.specs.Schedule.{ObeysEdge}
use Rattle.fleet_base.proofs.Sorting.{sorted}
use Rattle.fleet_base.proofs.AllVisits.{all_visits, sorted_by_rank}
use Rattle.cert_tree.specs.Orders.{ObeysPairs}
use Rattle.fleet_base.proofs.Edges.{head_there}
use Rattle.fleet_base.proofs.OpenPairs.{open_unreleased}
use Rattle.fleet_base.proofs.Places.{place_in, stands}
use Rattle.cert_tree.proofs.EdgeLaws.{visit_before, no_cycle}
use Rattle.cert_tree.proofs.Places.{earlier}

module _ (g : Graph) (x : FleetState) (state : IsFleetState g x) (order : ℕ → Option Side) (keeps : KeepsClosed g x order) where
  -- the pair of an edge whose head has arrived is closed, and its tail has arrived
  pub closed_of_arrived : (q : ℕ) (u v : Visit) → HasEdge g order q u v → HasArrived x v → is_open g x q ≡ false
  closed_of_arrived q u v e h = go (is_open g x q) refl
    where
      given : IsReleased x v
      given = let w = state.releases.within v.robot (head_there g order q u v state.fleet.graph e).robot in omega arith

      go : (b : Bool) → is_open g x q ≡ b → is_open g x q ≡ false
      go false o = o
      go true o = absurd (open_unreleased g x q e.pair e.side e.listed o (subst (λ (w : Visit). IsReleased x w) e.head given))

  pub edge_of_state : (q : ℕ) (u v : Visit) → HasEdge g order q u v → is_open g x q ≡ false → HasEdge g (order_of x.sides) q u v
  edge_of_state q u v e c = record { pair = e.pair; side = e.side; listed = e.listed; sided = sym (keeps q c) ∙ e.sided; tail = e.tail; head = e.head }

  pub tail_arrived : (q : ℕ) (u v : Visit) → HasEdge g order q u v → HasArrived x v → HasArrived x u
  tail_arrived q u v e h =
      let there = (head_there g order q u v state.fleet.graph e).robot in
      (state.releases.last v.robot there).clear q u v (edge_of_state q u v e (closed_of_arrived q u v e h)) refl (omega (arith, state.releases.within v.robot there))

  module _ (s : Visit → ℕ) (goes : (v : Visit) → IsVisit g (next_visit v) → ObeysEdge x s v (next_visit v)) (obeys : ObeysPairs g x order s) where
    -- arrived visits by their place in the state's order, and then the others by their ticks
    abbrev level : Visit → ℕ
    level v = cond (ltb v.index (arrived_count x v.robot)) (place_in state.order.list v) (length state.order.list + s v)

    level_arrived : (v : Visit) → HasArrived x v → level v ≡ place_in state.order.list v
    level_arrived v h = ap (λ b. cond b (place_in state.order.list v) (length state.order.list + s v)) (lt-ltb v.index (arrived_count x v.robot) h)

    level_ahead : (v : Visit) → arrived_count x v.robot ≤ v.index → level v ≡ length state.order.list + s v
    level_ahead v h = ap (λ b. cond b (place_in state.order.list v) (length state.order.list + s v)) (le-ltb v.index (arrived_count x v.robot) h)

    short : (v : Visit) → IsVisit g v → place_in state.order.list v < length state.order.list
    short v is = (stands state.order.list v (state.order.sorted.each v is)).0

    level_rises : (v : Visit) → IsVisit g (next_visit v) → level v < level (next_visit v)
    level_rises v is = go (cases_lt v.index (arrived_count x v.robot)) (cases_lt (v.index + 1) (arrived_count x v.robot))
      where
        here : IsVisit g v
        here = visit_before g v.robot (v.index + 1) v.index is (omega arith)

        later : arrived_count x v.robot ≤ v.index + 1 → ObeysEdge x s v (next_visit v) → s v < s (next_visit v)
        later n (inl h) = absurd (omega (arith, h))
        later n (inr le) = omega arith

        go : (v.index < arrived_count x v.robot) ⊎ (arrived_count x v.robot ≤ v.index) → (v.index + 1 < arrived_count x v.robot) ⊎ (arrived_count x v.robot ≤ v.index + 1) → level v < level (next_visit v)
        go (inl a) (inl b) = omega (arith, level_arrived v a, level_arrived (next_visit v) b, earlier g (order_of x.sides) state.order.list state.order.sorted v (next_visit v) here is (inl refl))
        go (inl a) (inr b) = omega (arith, level_arrived v a, level_ahead (next_visit v) b, short v here)
        go (inr a) (inl b) = absurd (omega arith)
        go (inr a) (inr b) = omega (arith, level_ahead v a, level_ahead (next_visit v) b, later b (goes v is))

    level_across : (q : ℕ) (u v : Visit) → IsVisit g u → HasEdge g order q u v → level u < level v
    level_across q u v iu e = go (cases_lt v.index (arrived_count x v.robot)) (cases_lt u.index (arrived_count x u.robot))
      where
        iv : IsVisit g v
        iv = head_there g order q u v state.fleet.graph e

        later : arrived_count x v.robot ≤ v.index → ObeysEdge x s u v → s u < s v
        later n (inl h) = absurd (omega (arith, h))
        later n (inr le) = omega arith

        go : (v.index < arrived_count x v.robot) ⊎ (arrived_count x v.robot ≤ v.index) → (u.index < arrived_count x u.robot) ⊎ (arrived_count x u.robot ≤ u.index) → level u < level v
        go (inl b) (inl a) =
            let f = earlier g (order_of x.sides) state.order.list state.order.sorted u v iu iv (inr (q, edge_of_state q u v e (closed_of_arrived q u v e b))) in
            omega (arith, level_arrived u a, level_arrived v b, f)
        go (inl b) (inr a) = absurd (let h = tail_arrived q u v e b in omega (arith, h))
        go (inr b) (inl a) = omega (arith, level_arrived u a, level_ahead v b, short u iu)
        go (inr b) (inr a) = omega (arith, level_ahead u a, level_ahead v b, later b (obeys q u v e))

    level_step : (v : Visit) → IsVisit g (next_visit v) → level v ≤ level (next_visit v)
    level_step v is = let h = level_rises v is in omega arith

    -- a lawful schedule does not obey all edges of a cycle
    pub never_round : (cycle : List PairId) → IsCycle g order cycle → ⊥
    never_round = no_cycle g order level level_step level_across

    before_rises : (u v : Visit) → IsVisit g u → IsVisit g v → Before g order u v → level u < level v
    before_rises u v iu iv (inl e) = subst (λ (w : Visit). level u < level w) (sym e) (level_rises u (subst (λ (w : Visit). IsVisit g w) e iv))
    before_rises u v iu iv (inr (q, e)) = level_across q u v iu e

    -- where a schedule obeys all edges, the visits can be listed so that each goes forward
    pub listed : (list : List Visit) × IsSorted g order list
    listed = (sorted level (all_visits g), sorted_by_rank g order level before_rises)
