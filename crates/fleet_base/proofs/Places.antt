-- Places of visits in a list.
use Rattle.std.proofs.Common.{ℕ, suc, ◌≡◌, ◌<◌, ◌⊎◌, List, [], ◌∷◌, Some, true, false, Bool, cond, refl, ap, inl, inr, arith, length}
use Rattle.std.specs.Prelude.{slice_get, Contains, ◌==◌}
use Rattle.std.proofs.lemmas.Bool.{eqb-true, and_parts}
use Rattle.fleet_base.specs.declared.geometry.Visit.{Visit}
use Rattle.fleet_base.specs.Pairs.{same_visit}
use Rattle.fleet_base.proofs.Members.{in_cons, in_none}
use Rattle.fleet_base.proofs.PairNumbers.{same_visit_true}

-- the test of two visits tells whether they are one
pub same_visit_is : (u v : Visit) → same_visit u v ≡ true → u ≡ v
same_visit_is u v h =
    let tests = and_parts (u.robot == v.robot) (u.index == v.index) h in
    let robots = eqb-true u.robot v.robot tests.0 in
    let indices = eqb-true u.index v.index tests.1 in
    λ i. record { robot = robots i; index = indices i }

pub same_visit-refl : (u : Visit) → same_visit u u ≡ true
same_visit-refl u = same_visit_true u u refl refl

pub same_visit_refl : (u v : Visit) → u ≡ v → same_visit u v ≡ true
same_visit_refl u v e = same_visit_true u v (ap (λ (w : Visit). w.robot) e) (ap (λ (w : Visit). w.index) e)

-- the place of a visit in a list, and its length where it is not in it
abbrev pub place_in : List Visit → Visit → ℕ
place_in [] v = 0
place_in (y ∷ ys) v = cond (same_visit y v) 0 (suc (place_in ys v))

-- a visit in the list stands at its place
pub stands : (list : List Visit) (v : Visit) → Contains list v → (place_in list v < length list) × (slice_get list (place_in list v) ≡ Some v)
stands [] v h = absurd (in_none v h)
stands (y ∷ ys) v h = go (same_visit y v) refl (in_cons y ys v h) (λ r. stands ys v r)
  where
    go : (b : Bool) → same_visit y v ≡ b → (y ≡ v) ⊎ Contains ys v → (Contains ys v → (place_in ys v < length ys) × (slice_get ys (place_in ys v) ≡ Some v))
        → (cond b 0 (suc (place_in ys v)) < length (y ∷ ys)) × (slice_get (y ∷ ys) (cond b 0 (suc (place_in ys v))) ≡ Some v)
    go true e o rest = (omega arith, ap Some (same_visit_is y v e))
    go false e (inl s) rest = let t = same_visit_refl y v s in cc
    go false e (inr r) rest = (omega (arith, (rest r).0), (rest r).1)
