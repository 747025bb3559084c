-- Edges out of a visit.
use Rattle.std.proofs.Common.{ℕ, ◌≡◌, ◌≢◌, ◌+◌, ◌-◌, ◌<◌, ◌≤◌, ◌⊎◌, List, Some, Option, Bool, true, false, refl, sym, ap, ◌∙◌, subst, inl, inr, arith, length, get_or}
use Rattle.std.specs.Prelude.{Contains, slice_get, not}
use Rattle.std.proofs.lemmas.Option.{slice_get-get_or}
use Rattle.fleet_base.specs.declared.geometry.Visit.{Visit}
use Rattle.fleet_base.specs.declared.order.Pair.{Pair}
use Rattle.fleet_base.specs.declared.order.PairId.{PairId}
use Rattle.fleet_base.specs.declared.order.Side.{Side}
use Rattle.fleet_base.specs.declared.order.Side.TheVariants.{Lower, Higher}
use Rattle.fleet_base.specs.Pairs.{numbers_of, same_visit}
use Rattle.fleet_base.specs.Order.{Graph, IsGraph, IsVisit, HasEdge, Before, next_visit, first_visit, second_visit}
use Rattle.fleet_base.proofs.Places.{same_visit_is}
use Rattle.fleet_base.proofs.PairNumbers.{is_of}
use Rattle.plan_graph.proofs.Numbers.{in_numbers, second_stands}
use Rattle.longest_path.proofs.Places.{visit}

-- the first visit of a pair stands in it
first_stands : (p : Pair) (side : Side) → is_of p (first_visit p side) ≡ true
first_stands p Lower = second_stands p Higher
first_stands p Higher = second_stands p Lower

-- the visit in front of the tail of a pair's edge is the pair's first one
in_front : (u v : Visit) → v ≡ next_visit u → visit v.robot (v.index - 1) ≡ u
in_front u v e = λ j. record { robot = robot j; index = index j }
  where
    robot : v.robot ≡ u.robot
    robot = ap (λ (w : Visit). w.robot) e

    index : v.index - 1 ≡ u.index
    index = let z = ap (λ (w : Visit). w.index) e in omega (arith, z)

-- a pair with an edge from a visit is one of the visit in front of it
pub out_numbered : (g : Graph) (order : ℕ → Option Side) (q : ℕ) (v w : Visit) → HasEdge g order q v w → Contains (numbers_of g.pairs (visit v.robot (v.index - 1))) (record { 0 = q })
out_numbered g order q v w e =
    in_numbers g.pairs (visit v.robot (v.index - 1)) q e.pair e.listed
    (subst (λ (u : Visit). is_of e.pair u ≡ true) (sym (in_front (first_visit e.pair e.side) v e.tail)) (first_stands e.pair e.side))

-- and no pair has an edge from a visit 0
pub none_out : (g : Graph) (order : ℕ → Option Side) (q : ℕ) (v w : Visit) → v.index ≡ 0 → HasEdge g order q v w → ⊥
none_out g order q v w z e = let k = ap (λ (u : Visit). u.index) e.tail in omega (arith, z, k)

pub a_pair : (pairs : List Pair) (q : ℕ) → q < length pairs → (p : Pair) × (slice_get pairs q ≡ Some p)
a_pair pairs q lt = (get_or pairs q (record { lower = visit 0 0; higher = visit 0 0; first = Lower }), slice_get-get_or pairs q (record { lower = visit 0 0; higher = visit 0 0; first = Lower }) lt)

-- an edge leads to another robot, and the step along a robot to another visit
robots_differ : (g : Graph) → IsGraph g → (q : ℕ) (p : Pair) (side : Side) → slice_get g.pairs q ≡ Some p → (first_visit p side).robot ≡ (second_visit p side).robot → ⊥
robots_differ g graph q p Lower at e = let z = graph.robots q p at in omega (arith, z, e)
robots_differ g graph q p Higher at e = let z = graph.robots q p at in omega (arith, z, e)

pub edge_apart : (g : Graph) → IsGraph g → (order : ℕ → Option Side) (q : ℕ) (v w : Visit) → HasEdge g order q v w → w ≢ v
edge_apart g graph order q v w e same =
    robots_differ g graph q e.pair e.side e.listed
    (let t = ap (λ (u : Visit). u.robot) e.tail in let h = ap (λ (u : Visit). u.robot) e.head in let s = ap (λ (u : Visit). u.robot) same in sym t ∙ sym s ∙ h)

pub before_apart : (g : Graph) → IsGraph g → (order : ℕ → Option Side) (v w : Visit) → Before g order v w → w ≢ v
before_apart g graph order v w (inl e) same = let a = ap (λ (u : Visit). u.index) e in let b = ap (λ (u : Visit). u.index) same in omega (arith, a, b)
before_apart g graph order v w (inr (q, e)) same = edge_apart g graph order q v w e same

-- visits that are not told apart are one
pub same_where : (u v : Visit) → false ≡ not (same_visit u v) → u ≡ v
same_where u v e = same_visit_is u v (go (same_visit u v) e)
  where
    go : (b : Bool) → false ≡ not b → b ≡ true
    go true h = refl
    go false h = cc
