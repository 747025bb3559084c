-- The pairs of a visit are those in which it stands, and each edge into it is that of one of them.
use Rattle.std.proofs.Common.{ℕ, suc, zero, ◌≡◌, ◌+◌, ◌<◌, ◌≤◌, ◌⊎◌, List, [], ◌∷◌, Some, Option, true, false, Bool, cond, refl, sym, ap, subst, inl, inr, arith, length}
use Rattle.std.specs.Prelude.{Contains, slice_get, ◌||◌, ◌==◌}
use Rattle.std.proofs.lemmas.Bool.{eqb-true, eq-eqb, and_parts, and_from, or_left, or_right}
use Rattle.fleet_base.specs.declared.geometry.Visit.{Visit}
use Rattle.fleet_base.specs.declared.order.Pair.{Pair}
use Rattle.fleet_base.specs.declared.order.PairId.{PairId}
use Rattle.fleet_base.specs.declared.order.Side.{Side}
use Rattle.fleet_base.specs.declared.order.Side.TheVariants.{Lower, Higher}
use Rattle.fleet_base.specs.Pairs.{same_visit, numbers_from, numbers_of}
use Rattle.fleet_base.specs.Order.{Graph, HasEdge, second_visit}
use Rattle.std.proofs.lemmas.Option.{slice_get_within}
use Rattle.fleet_base.proofs.Members.{head_in, tail_in, in_cons, in_none, element_at, place_of_element}
use Rattle.fleet_base.proofs.PairNumbers.{is_of, number}
use Rattle.fleet_base.proofs.Places.{same_visit-refl}

in_numbers_from : (first : ℕ) (pairs : List Pair) (v : Visit) (k : ℕ) (p : Pair) → slice_get pairs k ≡ Some p → is_of p v ≡ true → Contains (numbers_from first pairs v) (number (first + k))
in_numbers_from first [] v k p e t = cc
in_numbers_from first (p' ∷ ps) v zero p e t =
    let same : p' ≡ p = cc in
    let t' : is_of p' v ≡ true = subst (λ (r : Pair). is_of r v ≡ true) (sym same) t in
    let n : number first ≡ number (first + 0) = ap number (omega arith) in
    subst (λ (b : Bool). Contains (cond b (number first ∷ numbers_from (first + 1) ps v) (numbers_from (first + 1) ps v)) (number (first + 0))) (sym t')
    (subst (λ (r : PairId). Contains (number first ∷ numbers_from (first + 1) ps v) r) n (head_in (number first) (numbers_from (first + 1) ps v)))
in_numbers_from first (p' ∷ ps) v (suc k) p e t =
    let n : number ((first + 1) + k) ≡ number (first + suc k) = ap number (omega arith) in
    go (is_of p' v) (subst (λ (r : PairId). Contains (numbers_from (first + 1) ps v) r) n (in_numbers_from (first + 1) ps v k p e t))
  where
    go : (b : Bool) → Contains (numbers_from (first + 1) ps v) (number (first + suc k)) → Contains (cond b (number first ∷ numbers_from (first + 1) ps v) (numbers_from (first + 1) ps v)) (number (first + suc k))
    go true h = tail_in (number first) (numbers_from (first + 1) ps v) _ h
    go false h = h

-- a pair in which the visit stands has its number among those of the visit
pub in_numbers : (pairs : List Pair) (v : Visit) (q : ℕ) (p : Pair) → slice_get pairs q ≡ Some p → is_of p v ≡ true → Contains (numbers_of pairs v) (number q)
in_numbers pairs v q p e t =
    let n : number (0 + q) ≡ number q = ap number (omega arith) in
    subst (λ (r : PairId). Contains (numbers_of pairs v) r) n (in_numbers_from 0 pairs v q p e t)

-- a number of the visit is that of a pair in which it stands
pub record IsNumbered (first : ℕ) (pairs : List Pair) (v : Visit) (r : PairId) : Type 0 where
  pub place : ℕ
  pub pair : Pair
  pub number : r.0 ≡ first + place
  pub listed : slice_get pairs place ≡ Some pair
  pub stands : is_of pair v ≡ true

from_numbers_from : (first : ℕ) (pairs : List Pair) (v : Visit) (r : PairId) → Contains (numbers_from first pairs v) r → IsNumbered first pairs v r
from_numbers_from first [] v r h = absurd (in_none r h)
from_numbers_from first (p ∷ ps) v r h = go (is_of p v) refl h (from_numbers_from (first + 1) ps v r)
  where
    later : IsNumbered (first + 1) ps v r → IsNumbered first (p ∷ ps) v r
    later n = record { place = suc n.place; pair = n.pair; number = omega (arith, n.number); listed = n.listed; stands = n.stands }

    here : is_of p v ≡ true → (number first ≡ r) ⊎ Contains (numbers_from (first + 1) ps v) r → (Contains (numbers_from (first + 1) ps v) r → IsNumbered (first + 1) ps v r) → IsNumbered first (p ∷ ps) v r
    here t (inl e) rest = record { place = 0; pair = p; number = omega (arith, ap (λ (n : PairId). n.0) e); listed = refl; stands = t }
    here t (inr k) rest = later (rest k)

    go : (b : Bool) → is_of p v ≡ b → Contains (cond b (number first ∷ numbers_from (first + 1) ps v) (numbers_from (first + 1) ps v)) r → (Contains (numbers_from (first + 1) ps v) r → IsNumbered (first + 1) ps v r) → IsNumbered first (p ∷ ps) v r
    go true t k rest = here t (in_cons (number first) (numbers_from (first + 1) ps v) r k) rest
    go false t k rest = later (rest k)

pub from_numbers : (pairs : List Pair) (v : Visit) (r : PairId) → Contains (numbers_of pairs v) r → IsNumbered 0 pairs v r
from_numbers pairs v r h = from_numbers_from 0 pairs v r h

-- the second visit of a pair stands in it
pub second_stands : (p : Pair) (side : Side) → is_of p (second_visit p side) ≡ true
second_stands p Lower = or_right _ _ (same_visit-refl p.higher)
second_stands p Higher = or_left _ _ (same_visit-refl p.lower)

-- an edge into a visit is that of one of its pairs
pub edge_numbered : (g : Graph) (order : ℕ → Option Side) (q : ℕ) (u v : Visit) → HasEdge g order q u v → Contains (numbers_of g.pairs v) (number q)
edge_numbered g order q u v e =
    in_numbers g.pairs v q e.pair e.listed (subst (λ (w : Visit). is_of e.pair w ≡ true) (sym e.head) (second_stands e.pair e.side))

-- each number of the visit is that of a pair
pub numbers_within : (pairs : List Pair) (v : Visit) (k : ℕ) (q : PairId) → slice_get (numbers_of pairs v) k ≡ Some q → q.0 < length pairs
numbers_within pairs v k q e =
    let n = from_numbers pairs v q (element_at (numbers_of pairs v) k q e) in
    omega (arith, n.number, slice_get_within pairs n.place n.pair n.listed)

-- where none of the visit's pairs has the edge, no pair has
pub not_numbered : (g : Graph) (order : ℕ → Option Side) (u v : Visit) (n : ℕ) → length (numbers_of g.pairs v) ≤ n
    → ((k : ℕ) (q : PairId) → k < n → slice_get (numbers_of g.pairs v) k ≡ Some q → HasEdge g order q.0 u v → ⊥) → (q : ℕ) → HasEdge g order q u v → ⊥
not_numbered g order u v n all none q e =
    let p = place_of_element (numbers_of g.pairs v) (number q) (edge_numbered g order q u v e) in
    none p.0 (number q) (omega (arith, p.1, all)) p.2 e
