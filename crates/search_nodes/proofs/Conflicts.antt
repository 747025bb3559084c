-- What a least schedule obeys of an open pair, and which pairs are in conflict.
use Rattle.std.proofs.Common.{ℕ, ◌≡◌, ◌+◌, ◌<◌, ◌≤◌, ◌↔◌, List, Some, None, Option, true, false, Bool, refl, sym, ap, ◌∙◌, subst, inl, inr, arith, length, leb}
use Rattle.std.specs.Prelude.{slice_get, not, IsTrue}
use Rattle.std.proofs.lemmas.Bool.{leb-true, le-leb}
use Rattle.fleet_base.specs.declared.geometry.Visit.{Visit}
use Rattle.fleet_base.specs.declared.order.Pair.{Pair}
use Rattle.fleet_base.specs.declared.order.Side.{Side}
use Rattle.fleet_base.specs.declared.order.Side.TheVariants.{Lower, Higher}
use Rattle.fleet_base.specs.Order.{Graph, IsVisit, next_visit, first_visit, second_visit}
use Rattle.fleet_base.specs.State.{FleetState, HasArrived, order_at, delay_of, duration_of}
use Rattle.fleet_base.specs.Open.{is_open}
use Rattle.fleet_base.specs.Rules.{IsFleetState}
use Rattle.fleet_base.specs.Schedule.{ObeysSide, IsLeastSchedule}
use Rattle.fleet_base.proofs.Costs.{one_least}
use Rattle.fleet_base.proofs.Edges.{second_there}
use Rattle.fleet_base.proofs.OpenPairs.{open_unreleased, open_goes_on}
use Rattle.longest_path.specs.declared.decision.Decision.{Decision as Given}
use Rattle.longest_path.specs.Decisions.{order_on as given_order}
use Rattle.longest_path.specs.Deciding.{IsLeastTick}
use Rattle.cert_tree.specs.Decisions.{Decision, order_on}
use Rattle.order_choice.specs.Candidates.{IsSuggested, IsInConflict}
use Rattle.search_nodes.specs.Making.{given_on}
use Rattle.search_nodes.specs.Weighing.{IsUndecidable, IsCandidateSide}
use Rattle.search_nodes.proofs.Ways.{same_order, free_on, free_given}
use Rattle.search_nodes.proofs.Sides.{free_of_none, none_of_free}

module _ (g : Graph) (x : FleetState) (state : IsFleetState g x) (q : ℕ) (pair : Pair) (side : Side) (open_ : is_open g x q ≡ true) (listed : slice_get g.pairs q ≡ Some pair) where
  pub tail_is : IsVisit g (next_visit (first_visit pair side))
  tail_is = open_goes_on g x q pair side state.fleet.graph listed open_

  pub head_is : IsVisit g (second_visit pair side)
  head_is = second_there g q pair side state.fleet.graph listed

  not_arrived : HasArrived x (second_visit pair side) → ⊥
  not_arrived h = open_unreleased g x q pair side listed open_ (let w = state.releases.within (second_visit pair side).robot head_is.robot in omega (arith, h, w))

  -- the schedule obeys the edge exactly where the ticks of its visits say so
  pub obeys_exactly : (order : ℕ → Option Side) (s : Visit → ℕ) (a b : ℕ) → IsLeastSchedule g x order s → IsLeastTick g x order (next_visit (first_visit pair side)) a → IsLeastTick g x order (second_visit pair side) b
      → (a + duration_of x (second_visit pair side) ≤ b) ↔ ObeysSide x s pair side
  obeys_exactly order s a b least at_tail at_head = (λ h. inr (omega (arith, h, tail, head, at_tail.here, at_head.here)), back)
    where
      tail : s (next_visit (first_visit pair side)) ≡ at_tail.schedule (next_visit (first_visit pair side))
      tail = one_least g x order s at_tail.schedule least at_tail.least (next_visit (first_visit pair side)) tail_is

      head : s (second_visit pair side) ≡ at_head.schedule (second_visit pair side)
      head = one_least g x order s at_head.schedule least at_head.least (second_visit pair side) head_is

      back : ObeysSide x s pair side → a + duration_of x (second_visit pair side) ≤ b
      back (inl h) = absurd (not_arrived h)
      back (inr le) = omega (arith, le, tail, head, at_tail.here, at_head.here)

module _ (g : Graph) (x : FleetState) (ds : List Given) (way : List Decision) (e : ds ≡ given_on way) (s : Visit → ℕ) where
  pub order_is : given_order g x ds ≡ order_on g x way
  order_is = ap (λ (es : List Given). given_order g x es) e ∙ same_order g x way

  pub least_given : IsLeastSchedule g x (order_on g x way) s → IsLeastSchedule g x (given_order g x ds) s
  least_given least = subst (λ (o : ℕ → Option Side). IsLeastSchedule g x o s) (sym order_is) least

  -- a pair without a side is in conflict where the schedule obeys neither of its edges
  pub conflict_there : IsFleetState g x → (q : ℕ) → q < length g.pairs → IsUndecidable g x (given_order g x ds) s q → IsInConflict g x way s q
  conflict_there state q lt u = record {
    free = free_on g x way q (free_of_none g x (given_on way) state q lt (subst (λ (es : List Given). given_order g x es q ≡ None) e u.none));
    neither = u.neither;
  }

  -- and only there
  pub conflict_back : (q : ℕ) → IsInConflict g x way s q → IsUndecidable g x (given_order g x ds) s q
  conflict_back q c = record { none = subst (λ (es : List Given). given_order g x es q ≡ None) (sym e) (none_of_free g x (given_on way) q (free_given g x way q c.free)); neither = c.neither }

-- the same as a test tells it
pub obeys_told : (g : Graph) (x : FleetState) → IsFleetState g x → (q : ℕ) (side : Side) → is_open g x q ≡ true → (order : ℕ → Option Side) (read pair : Pair) (first second : Visit) (begins ends delay : ℕ) (s : Visit → ℕ)
    → slice_get g.pairs q ≡ Some read → first ≡ first_visit read side → second ≡ second_visit read side → IsLeastTick g x order (next_visit first) begins → IsLeastTick g x order second ends → delay ≡ delay_of x second
    → slice_get g.pairs q ≡ Some pair → IsLeastSchedule g x order s → IsTrue (leb (begins + 1 + delay) ends) ↔ ObeysSide x s pair side
obeys_told g x state q side open_ order read pair first second begins ends delay s at_read is_first is_second at_tail at_head delayed at_pair least =
    (λ h. exactly.0 (let z = leb-true (begins + 1 + delay) ends h in omega (arith, z, late)), λ h. le-leb (begins + 1 + delay) ends (let z = exactly.1 h in omega (arith, z, late)))
  where
    same : read ≡ pair
    same = cc

    tail : first ≡ first_visit pair side
    tail = is_first ∙ ap (λ (p : Pair). first_visit p side) same

    head : second ≡ second_visit pair side
    head = is_second ∙ ap (λ (p : Pair). second_visit p side) same

    late : delay ≡ delay_of x (second_visit pair side)
    late = delayed ∙ ap (λ (v : Visit). delay_of x v) head

    exactly : (begins + duration_of x (second_visit pair side) ≤ ends) ↔ ObeysSide x s pair side
    exactly = obeys_exactly g x state q pair side open_ at_pair order s begins ends least (subst (λ (v : Visit). IsLeastTick g x order (next_visit v) begins) tail at_tail) (subst (λ (v : Visit). IsLeastTick g x order v ends) head at_head)

-- ---- the suggested side

module _ (g : Graph) (x : FleetState) (order : ℕ → Option Side) (q : ℕ) (side : Side) where
  -- a pair that has a side keeps it in the candidate
  pub given_side : order q ≡ Some side → IsCandidateSide g x order q side
  given_side e = record { given = λ d f. let z : side ≡ d = cc in z; suggested = λ pair old s none l o least. absurd (let z = none in cc) }

  -- one that has none gets what its least schedule suggests
  pub free_side : order q ≡ None → ((pair : Pair) (old : Side) (s : Visit → ℕ) → slice_get g.pairs q ≡ Some pair → order_at g x q ≡ Some old → IsLeastSchedule g x order s → IsSuggested x s pair old side) → IsCandidateSide g x order q side
  free_side none h = record { given = λ d f. absurd (let z = none in cc); suggested = λ pair old s n l o least. h pair old s l o least }

-- a pair without a side, of which the schedule does not obey the edge at Lower, is undecidable where it does not obey the other
pub neither_told : (g : Graph) (x : FleetState) (order : ℕ → Option Side) (q : ℕ) (s : Visit → ℕ) (b : Bool) (pair : Pair) → order q ≡ None → slice_get g.pairs q ≡ Some pair → (ObeysSide x s pair Lower → ⊥) → IsTrue b ↔ ObeysSide x s pair Higher
    → IsTrue (not b) ↔ IsUndecidable g x order s q
neither_told g x order q s b pair none at lower higher = (there, back)
  where
    nor : (side : Side) → (b ≡ false) → ObeysSide x s pair side → ⊥
    nor Lower f h = lower h
    nor Higher f h = let t = higher.1 h in cc

    there : IsTrue (not b) → IsUndecidable g x order s q
    there t = record { none = none; neither = λ p side l. subst (λ (r : Pair). ObeysSide x s r side → ⊥) (let e : pair ≡ p = cc in e) (nor side (untrue b t)) }
      where
        untrue : (c : Bool) → IsTrue (not c) → c ≡ false
        untrue true h = absurd (let z = h in cc)
        untrue false h = refl

    back : IsUndecidable g x order s q → IsTrue (not b)
    back u = go b refl
      where
        go : (c : Bool) → b ≡ c → IsTrue (not b)
        go true e = absurd (u.neither pair Higher at (higher.0 e))
        go false e = subst (λ (d : Bool). IsTrue (not d)) (sym e) refl
