-- What stands at a place of a list that was written to, or grew.
use Rattle.std.proofs.Common.{ℕ, ◌≡◌, ◌≢◌, ◌<◌, zero, suc, List, [], ◌∷◌, ◌++◌, length, set, refl, ap, arith}
use Rattle.std.specs.Prelude.{slice_get, Some}

pub left : {X : Type 0} (xs ys : List X) (k : ℕ) (x : X) → slice_get xs k ≡ Some x → slice_get (xs ++ ys) k ≡ Some x
left [] ys k x h = cc
left (y ∷ xs) ys zero x h = h
left (y ∷ xs) ys (suc k) x h = left xs ys k x h

pub seam : {X : Type 0} (xs : List X) (y : X) (ys : List X) → slice_get (xs ++ y ∷ ys) (length xs) ≡ Some y
seam [] y ys = refl
seam (x ∷ xs) y ys = seam xs y ys

pub behind_seam : {X : Type 0} (xs : List X) (y z : X) (ys : List X) → slice_get (xs ++ y ∷ z ∷ ys) (suc (length xs)) ≡ Some z
behind_seam [] y z ys = refl
behind_seam (x ∷ xs) y z ys = behind_seam xs y z ys

pub written : {X : Type 0} (xs : List X) (k : ℕ) (x y : X) → slice_get xs k ≡ Some x → slice_get (set xs k y) k ≡ Some y
written [] k x y h = cc
written (z ∷ xs) zero x y h = refl
written (z ∷ xs) (suc k) x y h = written xs k x y h

pub other : {X : Type 0} (xs : List X) (k j : ℕ) (x y : X) → j ≢ k → slice_get xs j ≡ Some x → slice_get (set xs k y) j ≡ Some x
other [] k j x y ne h = cc
other (z ∷ xs) zero zero x y ne h = absurd (ne refl)
other (z ∷ xs) zero (suc j) x y ne h = h
other (z ∷ xs) (suc k) zero x y ne h = h
other (z ∷ xs) (suc k) (suc j) x y ne h = other xs k j x y (λ e. ne (ap suc e)) h

pub there_is : {X : Type 0} (xs : List X) (k : ℕ) → k < length xs → (x : X) × (slice_get xs k ≡ Some x)
there_is [] k lt = absurd (omega arith)
there_is (x ∷ xs) zero lt = (x, refl)
there_is (x ∷ xs) (suc k) lt = there_is xs k (omega arith)
