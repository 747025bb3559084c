-- The sides that are kept for the decisions.
use Rattle.std.proofs.Common.{ℕ, ◌≡◌, ◌<◌, List, Some, Option, true, cond, ap, length}
use Rattle.std.specs.Prelude.{slice_get}
use Rattle.fleet_base.specs.declared.geometry.Visit.{Visit}
use Rattle.fleet_base.specs.declared.order.Pair.{Pair}
use Rattle.fleet_base.specs.declared.order.Side.{Side}
use Rattle.fleet_base.specs.Order.{Graph, IsVisit, order_of, next_visit, first_visit, second_visit}
use Rattle.fleet_base.specs.State.{FleetState}
use Rattle.fleet_base.specs.Open.{is_open, KeepsClosed}
use Rattle.fleet_base.specs.Rules.{IsFleetState}
use Rattle.fleet_base.specs.Schedule.{decision_order}
use Rattle.cert_tree.specs.Decisions.{Decision, order_on}
use Rattle.cert_check.specs.Sides.{decided, order_by}
use Rattle.cert_check.specs.Judging.{Gives}
use Rattle.fleet_base.proofs.OpenPairs.{open_listed}
use Rattle.std.proofs.lemmas.Option.{slice_get_within}
use Rattle.cert_tree.proofs.Walks.{tail_there}

-- decided pairs leave the closed ones their sides
pub keeps : (g : Graph) (x : FleetState) (sides : List (Option Side)) → KeepsClosed g x (order_by g x sides)
keeps g x sides q closed = ap (λ b. cond b (decided sides q) (order_of x.sides q)) closed

-- an edge begins at a visit that is there
pub tail_is_there : (g : Graph) (x : FleetState) (sides : List (Option Side)) (q : ℕ) (pair : Pair) (side : Side) (u v : Visit) → IsFleetState g x → slice_get g.pairs q ≡ Some pair → order_by g x sides q ≡ Some side → u ≡ next_visit (first_visit pair side) → v ≡ second_visit pair side → IsVisit g u
tail_is_there g x sides q pair side u v state listed sided tail head =
    tail_there g x state (order_by g x sides) (keeps g x sides) q u v (record { pair = pair; side = side; listed = listed; sided = sided; tail = tail; head = head })

-- decisions that give the sides give the order
pub same_order : (g : Graph) (x : FleetState) (way : List Decision) (sides : List (Option Side)) → Gives way sides → order_by g x sides ≡ order_on g x way
same_order g x way sides gives = ap (decision_order g x) (λ j q. gives q j)

-- an open pair is there
pub open_within : (g : Graph) (x : FleetState) (q : ℕ) → is_open g x q ≡ true → q < length g.pairs
open_within g x q o = let l = open_listed g x q o in slice_get_within g.pairs q l.0 l.1
