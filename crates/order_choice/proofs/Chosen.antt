-- What the candidate of one least schedule says of a part decision.
use Rattle.std.proofs.Common.{ℕ, ◌≡◌, ◌≤◌, List, Some, Option, subst, inl, inr, arith}
use Rattle.std.specs.Prelude.{slice_get}
use Rattle.fleet_base.specs.declared.geometry.Visit.{Visit}
use Rattle.fleet_base.specs.declared.order.Pair.{Pair}
use Rattle.fleet_base.specs.declared.order.Side.{Side}
use Rattle.fleet_base.specs.Order.{Graph, IsSoundOrder, next_visit, first_visit, second_visit, other_side}
use Rattle.fleet_base.specs.State.{FleetState}
use Rattle.fleet_base.specs.Rules.{IsFleetState}
use Rattle.fleet_base.specs.Schedule.{ObeysSide, IsLeastSchedule, IsCost}
use Rattle.fleet_base.proofs.Costs.{one_least}
use Rattle.fleet_base.proofs.Edges.{second_there}
use Rattle.fleet_base.proofs.OpenPairs.{open_goes_on}
use Rattle.cert_tree.specs.Decisions.{Decision, order_on, IsFree}
use Rattle.order_choice.specs.Candidates.{IsSuggested, IsCandidate, IsNoCheaper}
use Rattle.order_choice.specs.Candidates.IsSuggested.{obeys_old, obeys_other, obeys_neither}
use Rattle.longest_path.proofs.LiveLaws.{one_order}
use Rattle.order_choice.proofs.Candidates.{one_candidate}

-- two least schedules of a part decision obey the same edges of its free pairs
module _ (g : Graph) (x : FleetState) (way : List Decision) (s t : Visit → ℕ) (state : IsFleetState g x) (a : IsLeastSchedule g x (order_on g x way) s) (b : IsLeastSchedule g x (order_on g x way) t) where
  pub same_side : (q : ℕ) (pair : Pair) (side : Side) → IsFree g x way q → slice_get g.pairs q ≡ Some pair → ObeysSide x s pair side → ObeysSide x t pair side
  same_side q pair side free l (inl h) = inl h
  same_side q pair side free l (inr le) =
      let u = one_least g x (order_on g x way) s t a b (next_visit (first_visit pair side)) (open_goes_on g x q pair side state.fleet.graph l free.0) in
      let v = one_least g x (order_on g x way) s t a b (second_visit pair side) (second_there g q pair side state.fleet.graph l) in
      inr (omega (arith, le, u, v))

-- so they suggest the same side
pub same_suggested : (g : Graph) (x : FleetState) (way : List Decision) (s t : Visit → ℕ) (state : IsFleetState g x) (a : IsLeastSchedule g x (order_on g x way) s) (b : IsLeastSchedule g x (order_on g x way) t)
    (q : ℕ) (pair : Pair) (old side : Side) → IsFree g x way q → slice_get g.pairs q ≡ Some pair → IsSuggested x s pair old side → IsSuggested x t pair old side
same_suggested g x way s t state a b q pair old _ free l (obeys_old h) = obeys_old (same_side g x way s t state a b q pair old free l h)
same_suggested g x way s t state a b q pair old _ free l (obeys_other n h) = obeys_other (λ k. n (same_side g x way t s state b a q pair old free l k)) (same_side g x way s t state a b q pair (other_side old) free l h)
same_suggested g x way s t state a b q pair old _ free l (obeys_neither n m) = obeys_neither (λ k. n (same_side g x way t s state b a q pair old free l k)) (λ k. m (same_side g x way t s state b a q pair (other_side old) free l k))

-- what the candidate of one least schedule costs decides for the part decision
pub weighs : (g : Graph) (x : FleetState) (way : List Decision) (s : Visit → ℕ) (order : ℕ → Option Side) (cost : ℕ) → IsFleetState g x → IsLeastSchedule g x (order_on g x way) s → IsCandidate g x way s order
    → (IsSoundOrder g order → (c : ℕ) → IsCost g x order c → cost ≤ c) → IsNoCheaper g x cost way
weighs g x way s order cost state least is dear t other c least' is' sound k =
    let same = one_order other order (one_candidate g x way state t s other order (same_suggested g x way t s state least' least) is' is) in
    dear (subst (λ (o : ℕ → Option Side). IsSoundOrder g o) same sound) c (subst (λ (o : ℕ → Option Side). IsCost g x o c) same k)
