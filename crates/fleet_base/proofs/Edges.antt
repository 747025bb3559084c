-- Edges of pairs.
use Rattle.std.proofs.Common.{ℕ, ◌≡◌, Some, Option, refl, sym, ap, ◌∙◌, subst}
use Rattle.std.specs.Prelude.{slice_get}
use Rattle.fleet_base.specs.declared.geometry.Visit.{Visit}
use Rattle.fleet_base.specs.declared.order.Pair.{Pair}
use Rattle.fleet_base.specs.declared.order.Side.{Side}
use Rattle.fleet_base.specs.declared.order.Side.TheVariants.{Lower, Higher}
use Rattle.fleet_base.specs.Order.{Graph, IsGraph, IsVisit, HasEdge, next_visit, first_visit, second_visit}

-- a pair has one edge in an order
pub edge_unique : (g : Graph) (order : ℕ → Option Side) (q : ℕ) (u v u' v' : Visit) → HasEdge g order q u v → HasEdge g order q u' v' → (u ≡ u') × (v ≡ v')
edge_unique g order q u v u' v' e f =
    let p : e.pair ≡ f.pair = cc in
    let s : e.side ≡ f.side = cc in (
      e.tail ∙ ap (λ (d : Side). next_visit (first_visit e.pair d)) s ∙ ap (λ (r : Pair). next_visit (first_visit r f.side)) p ∙ sym f.tail,
      e.head ∙ ap (λ (d : Side). second_visit e.pair d) s ∙ ap (λ (r : Pair). second_visit r f.side) p ∙ sym f.head,
    )

-- both visits of a pair are there
pub first_there : (g : Graph) (q : ℕ) (pair : Pair) (side : Side) → IsGraph g → slice_get g.pairs q ≡ Some pair → IsVisit g (first_visit pair side)
first_there g q pair Lower is e = is.lower q pair e
first_there g q pair Higher is e = is.higher q pair e

pub second_there : (g : Graph) (q : ℕ) (pair : Pair) (side : Side) → IsGraph g → slice_get g.pairs q ≡ Some pair → IsVisit g (second_visit pair side)
second_there g q pair Lower is e = is.higher q pair e
second_there g q pair Higher is e = is.lower q pair e

-- the edge of a listed pair with a side is this one
pub edge_of : (g : Graph) (order : ℕ → Option Side) (q : ℕ) (pair : Pair) (side : Side) (u v : Visit) → slice_get g.pairs q ≡ Some pair → order q ≡ Some side → HasEdge g order q u v
    → (u ≡ next_visit (first_visit pair side)) × (v ≡ second_visit pair side)
edge_of g order q pair side u v l s e =
    edge_unique g order q u v (next_visit (first_visit pair side)) (second_visit pair side) e (record { pair = pair; side = side; listed = l; sided = s; tail = refl; head = refl })

-- each edge leads to a visit
pub head_there : (g : Graph) (order : ℕ → Option Side) (q : ℕ) (u v : Visit) → IsGraph g → HasEdge g order q u v → IsVisit g v
head_there g order q u v is e = subst (λ (w : Visit). IsVisit g w) (sym e.head) (second_there g q e.pair e.side is e.listed)
