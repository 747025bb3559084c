-- What a decision adds to the order in force, and what is left without it.
use Rattle.std.proofs.Common.{ℕ, ◌≡◌, ◌≢◌, ◌+◌, ◌<◌, ◌≤◌, ◌⊎◌, List, ◌∷◌, Some, None, Option, true, false, Bool, cond, refl, sym, ap, ◌∙◌, subst, inl, inr, arith, length, set, get_or}
use Rattle.std.specs.Prelude.{slice_get}
use Rattle.std.proofs.lemmas.Bool.{cases_eq, cases_lt}
use Rattle.std.proofs.lemmas.List.{get_or-set_same, get_or-set_other}
use Rattle.fleet_base.specs.declared.geometry.Visit.{Visit}
use Rattle.fleet_base.specs.declared.order.Edge.{Edge}
use Rattle.fleet_base.specs.declared.order.Pair.{Pair}
use Rattle.fleet_base.specs.declared.order.PairId.{PairId}
use Rattle.fleet_base.specs.declared.order.Side.{Side}
use Rattle.fleet_base.specs.Order.{Graph, IsVisit, HasEdge, next_visit, first_visit, second_visit}
use Rattle.fleet_base.specs.Open.{is_open}
use Rattle.fleet_base.specs.State.{FleetState, IsReleased, order_at, arrived_count, released_count}
use Rattle.fleet_base.specs.Rules.{IsFleetState}
use Rattle.fleet_base.specs.Schedule.{IsLeastSchedule}
use Rattle.fleet_base.proofs.Edges.{second_there}
use Rattle.fleet_base.proofs.OpenPairs.{open_listed, open_unreleased, open_goes_on}
use Rattle.longest_path.specs.declared.decision.Decision.{Decision}
use Rattle.longest_path.specs.Closed.{AgreesOnClosed}
use Rattle.longest_path.specs.Decisions.{side_on, order_on, IsFree}
use Rattle.longest_path.specs.Extending.{Extends, HasOneMore}
use Rattle.longest_path.specs.Rising.{IsAdded}
use Rattle.longest_path.specs.Falling.{WasAdded}
use Rattle.longest_path.proofs.LiveLaws.{open_within, one_order}

-- the order of a list of sides
abbrev pub sides_order : List (Option Side) → ℕ → Option Side
sides_order sides r = get_or sides r None

-- decisions leave the closed pairs alone
pub agrees_on : (g : Graph) (x : FleetState) (ds : List Decision) → AgreesOnClosed g x (order_on g x ds)
agrees_on g x ds q side closed e = go (is_open g x q) closed e
  where
    go : (b : Bool) → b ≡ false → cond b (side_on ds q) (order_at g x q) ≡ Some side → order_at g x q ≡ Some side
    go true c h = cc
    go false c h = h

pub sides_agree : (g : Graph) (x : FleetState) (ds : List Decision) (sides : List (Option Side)) → ((r : ℕ) → get_or sides r None ≡ order_on g x ds r) → AgreesOnClosed g x (sides_order sides)
sides_agree g x ds sides each q side closed e = agrees_on g x ds q side closed (sym (each q) ∙ e)

-- a side for a pair that had none
pub one_set : (sides : List (Option Side)) (q : ℕ) (side : Side) → get_or sides q None ≡ None → HasOneMore (sides_order sides) (sides_order (set sides q (Some side))) q
one_set sides q side none = record { extends = extends; others = λ r ne. get_or-set_other sides q r (Some side) None ne }
  where
    extends : Extends (sides_order sides) (sides_order (set sides q (Some side)))
    extends r s e = go (cases_eq r q)
      where
        go : (r ≡ q) ⊎ (r ≢ q) → get_or (set sides q (Some side)) r None ≡ Some s
        go (inl same) = absurd (let z = ap (λ n. sides_order sides n) same in cc)
        go (inr ne) = get_or-set_other sides q r (Some side) None ne ∙ e

-- and none for one that had this side
pub one_cleared : (sides : List (Option Side)) (q : ℕ) → q < length sides → HasOneMore (sides_order (set sides q None)) (sides_order sides) q
one_cleared sides q lt = record { extends = extends; others = λ r ne. sym (get_or-set_other sides q r None None ne) }
  where
    extends : Extends (sides_order (set sides q None)) (sides_order sides)
    extends r s e = go (cases_eq r q)
      where
        go : (r ≡ q) ⊎ (r ≢ q) → get_or sides r None ≡ Some s
        go (inl same) = absurd (let z = ap (λ n. sides_order (set sides q None) n) same in let k = get_or-set_same sides q None None lt in cc)
        go (inr ne) = sym (get_or-set_other sides q r None None ne) ∙ e

module _ (g : Graph) (x : FleetState) (state : IsFleetState g x) (q : PairId) (side : Side) (edge : Edge) (open_ : is_open g x q.0 ≡ true)
    (tail : (pair : Pair) → slice_get g.pairs q.0 ≡ Some pair → edge.tail ≡ next_visit (first_visit pair side)) (head : (pair : Pair) → slice_get g.pairs q.0 ≡ Some pair → edge.head ≡ second_visit pair side) where
  there : (pair : Pair) × (slice_get g.pairs q.0 ≡ Some pair)
  there = open_listed g x q.0 open_

  pub edge_head : IsVisit g edge.head
  edge_head = subst (λ (v : Visit). IsVisit g v) (sym (head there.0 there.1)) (second_there g q.0 there.0 side state.fleet.graph there.1)

  pub edge_ahead : arrived_count x edge.head.robot ≤ edge.head.index
  edge_ahead = go (cases_lt edge.head.index (released_count x edge.head.robot))
    where
      go : (edge.head.index < released_count x edge.head.robot) ⊎ (released_count x edge.head.robot ≤ edge.head.index) → arrived_count x edge.head.robot ≤ edge.head.index
      go (inl h) = absurd (open_unreleased g x q.0 there.0 side there.1 open_ (subst (λ (v : Visit). IsReleased x v) (head there.0 there.1) h))
      go (inr le) = let z = state.releases.within edge.head.robot edge_head.robot in omega (arith, z, le)

  edge_has : (order : ℕ → Option Side) → order q.0 ≡ Some side → HasEdge g order q.0 edge.tail edge.head
  edge_has order e = record { pair = there.0; side = side; listed = there.1; sided = e; tail = tail there.0 there.1; head = head there.0 there.1 }

  pub is_added : (sides : List (Option Side)) → length sides ≡ length g.pairs → get_or sides q.0 None ≡ None → (s : Visit → ℕ) → IsLeastSchedule g x (sides_order sides) s → IsAdded g x (sides_order (set sides q.0 (Some side))) edge s
  is_added sides long none s least = record {
    order = sides_order sides;
    pair = q.0;
    one = one_set sides q.0 side none;
    has = edge_has (sides_order (set sides q.0 (Some side))) (get_or-set_same sides q.0 (Some side) None (let z = open_within g x q.0 open_ in omega (arith, z, long)));
    tail = subst (λ (v : Visit). IsVisit g v) (sym (tail there.0 there.1)) (open_goes_on g x q.0 there.0 side state.fleet.graph there.1 open_);
    head = edge_head;
    ahead = edge_ahead;
    least = least;
  }

  pub was_added : (sides : List (Option Side)) → length sides ≡ length g.pairs → get_or sides q.0 None ≡ Some side → (s : Visit → ℕ) → IsLeastSchedule g x (sides_order sides) s → WasAdded g x (sides_order (set sides q.0 None)) edge.head s
  was_added sides long given s least = record {
    more = sides_order sides;
    pair = q.0;
    tail = edge.tail;
    one = one_cleared sides q.0 (let z = open_within g x q.0 open_ in omega (arith, z, long));
    edge = edge_has (sides_order sides) given;
    least = least;
  }
