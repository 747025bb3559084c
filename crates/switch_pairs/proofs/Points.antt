-- A list that a test parts in two: what passes stands before what does not.
use Rattle.std.proofs.Common.{ℕ, suc, zero, ◌≡◌, List, [], ◌∷◌, Bool, true, false, cond, not, refl, sym, ap, ◌∙◌, subst, arith, length, take, drop}
use Rattle.std.specs.Prelude.{Contains, filter}
use Rattle.std.specs.List.{AllWithin}
use Rattle.switch_pairs.proofs.Lists.{filter_none, filter_all}

-- what holds at each place holds of each element
each : {X : Type 0} (p : X → Bool) (b : Bool) (xs : List X) → AllWithin (λ y. p y ≡ b) xs 0 (length xs) → (y : X) → Contains xs y → p y ≡ b
each {X} p b xs h y k = subst (λ (z : X). p z ≡ b) k.2 (h k.0 y (omega arith) k.1)

later : {X : Type 0} (p : X → Bool) (b : Bool) (x : X) (xs : List X) (a z : ℕ) → AllWithin (λ y. p y ≡ b) (x ∷ xs) (suc a) (suc z) → AllWithin (λ y. p y ≡ b) xs a z
later p b x xs a z h = λ k d low high. h (suc k) d (omega (arith, low)) (omega (arith, high))

-- the part before the point is what passes
pub before_point : {X : Type 0} (p : X → Bool) (xs : List X) (a : ℕ) → AllWithin (λ y. p y ≡ true) xs 0 a → AllWithin (λ y. p y ≡ false) xs a (length xs) → take a xs ≡ filter p xs
before_point p [] zero t f = refl
before_point p [] (suc a) t f = refl
before_point p (x ∷ xs) zero t f = sym (filter_none p (x ∷ xs) (each p false (x ∷ xs) f))
before_point {X} p (x ∷ xs) (suc a) t f =
    let here : p x ≡ true = t 0 x (omega arith) (omega arith) in
    let rest : take a xs ≡ filter p xs = before_point p xs a (λ k d low high. t (suc k) d (omega (arith, low)) (omega (arith, high))) (later p false x xs a (length xs) f) in
    ap (λ (l : List X). x ∷ l) rest ∙ sym (ap (λ (b : Bool). cond b (x ∷ filter p xs) (filter p xs)) here)

-- the part after the point is what does not
pub after_point : {X : Type 0} (p : X → Bool) (xs : List X) (a : ℕ) → AllWithin (λ y. p y ≡ true) xs 0 a → AllWithin (λ y. p y ≡ false) xs a (length xs) → drop a xs ≡ filter (λ y. not (p y)) xs
after_point p [] zero t f = refl
after_point p [] (suc a) t f = refl
after_point p (x ∷ xs) zero t f = sym (filter_all (λ y. not (p y)) (x ∷ xs) (λ y k. ap not (each p false (x ∷ xs) f y k)))
after_point {X} p (x ∷ xs) (suc a) t f =
    let here : p x ≡ true = t 0 x (omega arith) (omega arith) in
    let rest : drop a xs ≡ filter (λ y. not (p y)) xs = after_point p xs a (λ k d low high. t (suc k) d (omega (arith, low)) (omega (arith, high))) (later p false x xs a (length xs) f) in
    rest ∙ sym (ap (λ (b : Bool). cond (not b) (x ∷ filter (λ y. not (p y)) xs) (filter (λ y. not (p y)) xs)) here)
