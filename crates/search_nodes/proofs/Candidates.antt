-- The view that is written as a candidate is one, and what it costs weighs the part decision.
use Rattle.std.proofs.Common.{ℕ, ◌≡◌, ◌+◌, ◌<◌, ◌≤◌, ◌⊎◌, List, Some, None, Option, true, false, Bool, cond, refl, sym, ap, ◌∙◌, subst, inl, inr, arith, length}
use Rattle.std.specs.Prelude.{slice_get, IsSome}
use Rattle.std.proofs.lemmas.Bool.{cases_lt}
use Rattle.std.proofs.lemmas.Option.{slice_get_past}
use Rattle.fleet_base.specs.declared.geometry.Visit.{Visit}
use Rattle.fleet_base.specs.declared.order.Pair.{Pair}
use Rattle.fleet_base.specs.declared.order.Side.{Side}
use Rattle.fleet_base.specs.Order.{Graph, IsVisit, IsSoundOrder, IsCyclic, next_visit}
use Rattle.fleet_base.specs.State.{FleetState, order_at}
use Rattle.fleet_base.specs.Open.{is_open, KeepsClosed}
use Rattle.fleet_base.specs.Rules.{IsFleetState}
use Rattle.fleet_base.specs.Schedule.{ObeysEdge, IsLeastSchedule, IsCost, end_sum_of}
use Rattle.fleet_base.proofs.Costs.{one_cost, cost_of_least}
use Rattle.fleet_base.proofs.Edges.{head_there}
use Rattle.longest_path.specs.declared.decision.Decision.{Decision as Given}
use Rattle.longest_path.specs.Decisions.{order_on as given_order}
use Rattle.longest_path.specs.Extending.{Extends}
use Rattle.longest_path.proofs.Extending.{obeys_fewer}
use Rattle.longest_path.proofs.LiveLaws.{open_within}
use Rattle.cert_tree.specs.Decisions.{Decision, side_on, order_on, IsFree}
use Rattle.cert_tree.specs.Orders.{ObeysPairs}
use Rattle.cert_tree.proofs.EdgeLaws.{visit_before}
use Rattle.cert_tree.proofs.Lawful.{listed}
use Rattle.cert_tree.proofs.SoundOrders.{acyclic_is_sound}
use Rattle.cert_tree.proofs.Walks.{tail_there}
use Rattle.order_choice.specs.Candidates.{IsSuggested, IsCandidate, IsNoCheaper}
use Rattle.order_choice.specs.Searching.{IsBest}
use Rattle.order_choice.proofs.Chosen.{weighs}
use Rattle.search_nodes.specs.Making.{given_on}
use Rattle.search_nodes.specs.Weighing.{IsCandidateOrder, IsLeastSum}
use Rattle.search_nodes.proofs.Sides.{has_side, order_of_closed}
use Rattle.search_nodes.proofs.Conflicts.{order_is, least_given}

-- the state's side of a pair
pub state_side : (g : Graph) (x : FleetState) → IsFleetState g x → (q : ℕ) → q < length g.pairs → (side : Side) × (order_at g x q ≡ Some side)
state_side g x state q lt = go (order_at g x q) refl (state.order.total q lt)
  where
    go : (o : Option Side) → order_at g x q ≡ o → IsSome (order_at g x q) → (side : Side) × (order_at g x q ≡ Some side)
    go None e h = absurd (let k = subst (λ (z : Option Side). IsSome z) e h in cc)
    go (Some side) e h = (side, e)

module _ (g : Graph) (x : FleetState) (state : IsFleetState g x) (ds : List Given) (order : ℕ → Option Side) (view : IsCandidateOrder g x (given_order g x ds) order) where
  -- it keeps the closed pairs' sides
  pub keeps_closed : KeepsClosed g x order
  keeps_closed q closed = go (cases_lt q (length g.pairs))
    where
      go : (q < length g.pairs) ⊎ (length g.pairs ≤ q) → order q ≡ order_at g x q
      go (inl lt) =
          let o = state_side g x state q lt in
          let v = view.sides q lt in
          v.1 ∙ ap Some (v.2.given o.0 (order_of_closed g x ds q closed ∙ o.1)) ∙ sym o.1
      go (inr le) = view.past q le ∙ sym (slice_get_past x.sides q (omega (arith, le, state.fleet.sides)))

  pub open_sided : (q : ℕ) → is_open g x q ≡ true → IsSome (order q)
  open_sided q o = let v = view.sides q (open_within g x q o) in has_side (order q) v.0 v.1

  -- it is the candidate of the way
  pub is_candidate : (way : List Decision) → ds ≡ given_on way → (s : Visit → ℕ) → IsLeastSchedule g x (order_on g x way) s → IsCandidate g x way s order
  is_candidate way e s least = record { closed = keeps_closed; decided = decided; undecided = undecided }
    where
      same : given_order g x ds ≡ order_on g x way
      same = order_is g x ds way e s

      decided : (q : ℕ) (side : Side) → is_open g x q ≡ true → side_on way q ≡ Some side → order q ≡ Some side
      decided q side o d =
          let v = view.sides q (open_within g x q o) in
          v.1 ∙ ap Some (v.2.given side (ap (λ (f : ℕ → Option Side). f q) same ∙ ap (λ (b : Bool). cond b (side_on way q) (order_at g x q)) o ∙ d))

      undecided : (q : ℕ) (pair : Pair) (old : Side) → IsFree g x way q → slice_get g.pairs q ≡ Some pair → order_at g x q ≡ Some old
          → (side : Side) × (order q ≡ Some side) × IsSuggested x s pair old side
      undecided q pair old free l o =
          let v = view.sides q (open_within g x q free.0) in
          let none : given_order g x ds q ≡ None = ap (λ (f : ℕ → Option Side). f q) same ∙ ap (λ (b : Bool). cond b (side_on way q) (order_at g x q)) free.0 ∙ free.1 in
          (v.0, v.1, v.2.suggested pair old s none l o (least_given g x ds way e s least))

  -- a schedule that obeys it shows that it is sound
  pub is_sound : (t : Visit → ℕ) → IsLeastSchedule g x order t → IsSoundOrder g order
  is_sound t least = let l = listed g x state order keeps_closed t goes pairs in acyclic_is_sound g x order l.0 state keeps_closed open_sided l.1
    where
      goes : (v : Visit) → IsVisit g (next_visit v) → ObeysEdge x t v (next_visit v)
      goes v there = least.obeys v (next_visit v) (visit_before g v.robot (v.index + 1) v.index there (omega arith)) there (inl refl)

      pairs : ObeysPairs g x order t
      pairs q u v e = least.obeys u v (tail_there g x state order keeps_closed q u v e) (head_there g order q u v state.fleet.graph e) (inr (q, e))

  -- so it weighs the part decision
  pub view_weighs : (way : List Decision) → ds ≡ given_on way → (cost : ℕ) → (IsSoundOrder g order → (c : ℕ) → IsCost g x order c → cost ≤ c) → IsNoCheaper g x cost way
  view_weighs way e cost dear s other c least is sound k = weighs g x way s order cost state least (is_candidate way e s least) dear s other c least is sound k

  -- where it has a least schedule, its cost counts
  pub cost_weighs : (way : List Decision) → ds ≡ given_on way → (cost : ℕ) (t : Visit → ℕ) → IsLeastSchedule g x order t → cost ≤ end_sum_of g t → IsNoCheaper g x cost way
  cost_weighs way e cost t least le = view_weighs way e cost (λ sound c k. let one = one_cost g x order c (end_sum_of g t) k (cost_of_least g x order t least) in omega (arith, one, le))

  -- and it may become the best order
  pub view_best : (old : ℕ → Option Side) (best : ℕ) (t : Visit → ℕ) → IsBest g x old best → IsLeastSchedule g x order t → end_sum_of g t ≤ best → IsBest g x order (end_sum_of g t)
  view_best old best t b least le = record { sound = is_sound t least; closed = keeps_closed; costs = cost_of_least g x order t least; no_dearer = λ d k. let z = b.no_dearer d k in omega (arith, z, le) }

-- a candidate goes on from the part decision
pub candidate_extends : (g : Graph) (x : FleetState) (way : List Decision) (s : Visit → ℕ) (order : ℕ → Option Side) → IsCandidate g x way s order → Extends (order_on g x way) order
candidate_extends g x way s order is q side e = go (is_open g x q) (side_on way q) refl refl e
  where
    go : (b : Bool) (o : Option Side) → is_open g x q ≡ b → side_on way q ≡ o → cond b o (order_at g x q) ≡ Some side → order q ≡ Some side
    go false o a f h = is.closed q a ∙ h
    go true None a f h = cc
    go true (Some d) a f h = is.decided q side a (f ∙ h)

-- so it costs no less
pub relaxed_weighs : (g : Graph) (x : FleetState) (way : List Decision) (relaxed cost : ℕ) → IsLeastSum g x (order_on g x way) relaxed → cost ≤ relaxed → IsNoCheaper g x cost way
relaxed_weighs g x way relaxed cost sum le s order c least is sound k =
    let mine = cost_of_least g x (order_on g x way) sum.ticks sum.least in
    let low = mine.least k.best k.schedule (obeys_fewer g (order_on g x way) order (candidate_extends g x way s order is) x k.best k.obeys) in
    omega (arith, low, k.sum, sum.sum_is, le)
