-- The edge of a pair as it is computed, and where a walk can go along its robot.
use Rattle.std.proofs.Common.{ℕ, ◌≡◌, ◌+◌, ◌-◌, ◌≤◌, Some, None, Option, true, refl, sym, ap, ◌∙◌, arith, leb, eqb}
use Rattle.std.specs.Prelude.{slice_get, option_and_then, sum_by, ◌&&◌}
use Rattle.std.specs.Option.{option_map}
use Rattle.std.specs.List.{range_with_len}
use Rattle.std.proofs.lemmas.Bool.{and_parts, and_from, eqb-true, leb-true, eq-eqb, le-leb}
use Rattle.fleet_base.specs.declared.geometry.Visit.{Visit}
use Rattle.fleet_base.specs.declared.order.Edge.{Edge}
use Rattle.fleet_base.specs.declared.order.Pair.{Pair}
use Rattle.fleet_base.specs.declared.order.Side.{Side}
use Rattle.fleet_base.specs.Order.{Graph, HasEdge, last_in, next_visit, first_visit, second_visit}
use Rattle.fleet_base.specs.State.{FleetState, duration_of}
use Rattle.fleet_base.specs.Paths.{edge_in, travel, leads_on}

abbrev visit : ℕ → ℕ → Visit
visit i k = record { robot = i; index = k }

-- the edge of a pair is the one that is computed
pub edge_is : (g : Graph) (order : ℕ → Option Side) (q : ℕ) (u v : Visit) → HasEdge g order q u v → edge_in g order q ≡ Some (record { tail = u; head = v })
edge_is g order q u v e =
    ap (λ (o : Option Pair). option_and_then (λ (pair : Pair). option_map (λ (side : Side). let f : Edge = record { tail = next_visit (first_visit pair side); head = second_visit pair side } in f) (order q)) o) e.listed
    ∙ ap (λ (o : Option Side). option_map (λ (side : Side). let f : Edge = record { tail = next_visit (first_visit e.pair side); head = second_visit e.pair side } in f) o) e.sided
    ∙ ap (λ (w : Visit). Some (let f : Edge = record { tail = w; head = second_visit e.pair e.side } in f)) (sym e.tail)
    ∙ ap (λ (w : Visit). Some (let f : Edge = record { tail = u; head = w } in f)) (sym e.head)

-- an edge that is computed is one
pub edge_has : (g : Graph) (order : ℕ → Option Side) (q : ℕ) (e : Edge) → edge_in g order q ≡ Some e → HasEdge g order q e.tail e.head
edge_has g order q e h = of_pair (slice_get g.pairs q) refl h
  where
    of_side : (pair : Pair) → slice_get g.pairs q ≡ Some pair → (o : Option Side) → order q ≡ o
        → option_map (λ (side : Side). let f : Edge = record { tail = next_visit (first_visit pair side); head = second_visit pair side } in f) o ≡ Some e → HasEdge g order q e.tail e.head
    of_side pair l None s k = cc
    of_side pair l (Some side) s k =
        let same : record { tail = next_visit (first_visit pair side); head = second_visit pair side } ≡ e = cc in
        record { pair = pair; side = side; listed = l; sided = s; tail = sym (ap (λ (f : Edge). f.tail) same); head = sym (ap (λ (f : Edge). f.head) same) }

    of_pair : (o : Option Pair) → slice_get g.pairs q ≡ o
        → option_and_then (λ (pair : Pair). option_map (λ (side : Side). let f : Edge = record { tail = next_visit (first_visit pair side); head = second_visit pair side } in f) (order q)) o ≡ Some e → HasEdge g order q e.tail e.head
    of_pair None l k = cc
    of_pair (Some pair) l k = of_side pair l (order q) refl k

-- how long the moves along a robot last
pub travel_none : (x : FleetState) (v : Visit) → travel x v v.index ≡ 0
travel_none x v = ap (λ m. sum_by (λ r. duration_of x (visit v.robot r)) (range_with_len (v.index + 1) m)) (let z : (v.index + 1) - (v.index + 1) ≡ 0 = omega arith in z)

-- where a walk can go
pub record CanGo (g : Graph) (at to : Visit) : Type 0 where
  pub robot : at.robot ≡ to.robot
  pub onward : at.index ≤ to.index
  pub within : to.index ≤ last_in g to.robot

pub can_go : (g : Graph) (at to : Visit) → leads_on g at to ≡ true → CanGo g at to
can_go g at to h =
    let a = and_parts (eqb at.robot to.robot) (leb at.index to.index && leb to.index (last_in g to.robot)) h in
    let b = and_parts (leb at.index to.index) (leb to.index (last_in g to.robot)) a.1 in
    record { robot = eqb-true at.robot to.robot a.0; onward = leb-true at.index to.index b.0; within = leb-true to.index (last_in g to.robot) b.1 }

pub goes : (g : Graph) (at to : Visit) → CanGo g at to → leads_on g at to ≡ true
goes g at to c =
    and_from (eqb at.robot to.robot) (leb at.index to.index && leb to.index (last_in g to.robot)) (eq-eqb at.robot to.robot c.robot)
    (and_from (leb at.index to.index) (leb to.index (last_in g to.robot)) (le-leb at.index to.index c.onward) (le-leb to.index (last_in g to.robot) c.within))
