-- The candidate of a part decision: an order for every pair, made from its least schedule.
use Rattle.std.specs.Prelude.{ℕ, ◌≡◌, ◌≤◌, List, true, slice_get, Option, Some}
use Rattle.fleet_base.specs.declared.geometry.Visit.{Visit}
use Rattle.fleet_base.specs.declared.order.Pair.{Pair}
use Rattle.fleet_base.specs.declared.order.Side.{Side}
use Rattle.fleet_base.specs.Order.{Graph, IsSoundOrder, other_side}
use Rattle.fleet_base.specs.State.{FleetState, order_at}
use Rattle.fleet_base.specs.Open.{is_open, KeepsClosed}
use Rattle.fleet_base.specs.Schedule.{ObeysSide, IsCost, IsLeastSchedule}
use Rattle.cert_tree.specs.Decisions.{Decision, side_on, order_on, IsFree}

-- the side that a schedule suggests for an undecided pair: the old one if the schedule obeys its edge, else the other one if
-- it obeys that one's, else the old one
pub data IsSuggested (x : FleetState) (s : Visit → ℕ) (pair : Pair) (old : Side) : Side → Type 0 where
  obeys_old : ObeysSide x s pair old → IsSuggested x s pair old old
  obeys_other : ¬ ObeysSide x s pair old → ObeysSide x s pair (other_side old) → IsSuggested x s pair old (other_side old)
  obeys_neither : ¬ ObeysSide x s pair old → ¬ ObeysSide x s pair (other_side old) → IsSuggested x s pair old old

-- the order is the candidate of a part decision with this schedule: closed pairs keep their sides, decided ones have the
-- decided side, and each other open pair has the suggested one
pub record IsCandidate (g : Graph) (x : FleetState) (way : List Decision) (s : Visit → ℕ) (order : ℕ → Option Side) : Type 0 where
  pub closed : KeepsClosed g x order
  pub decided : (q : ℕ) (side : Side) → is_open g x q ≡ true → side_on way q ≡ Some side → order q ≡ Some side
  pub undecided : (q : ℕ) (pair : Pair) (old : Side) → IsFree g x way q → slice_get g.pairs q ≡ Some pair → order_at g x q ≡ Some old
      → (side : Side) × (order q ≡ Some side) × IsSuggested x s pair old side

-- the candidate of a part decision is not sound, or costs at least so much
abbrev pub IsNoCheaper : Graph → FleetState → ℕ → List Decision → Type 0
IsNoCheaper g x cost way = (s : Visit → ℕ) (order : ℕ → Option Side) (c : ℕ) → IsLeastSchedule g x (order_on g x way) s → IsCandidate g x way s order → IsSoundOrder g order → IsCost g x order c → cost ≤ c

-- a pair is in conflict at a part decision with this schedule: it is open and undecided, and the schedule obeys neither edge
pub record IsInConflict (g : Graph) (x : FleetState) (way : List Decision) (s : Visit → ℕ) (q : ℕ) : Type 0 where
  pub free : IsFree g x way q
  pub neither : (pair : Pair) (side : Side) → slice_get g.pairs q ≡ Some pair → ¬ ObeysSide x s pair side
