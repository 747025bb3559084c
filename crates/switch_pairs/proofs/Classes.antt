-- A list in the order of a number is made of the elements with each number.
use Rattle.std.proofs.Common.{ℕ, suc, zero, ◌≡◌, ◌≢◌, ◌+◌, ◌-◌, ◌<◌, ◌≤◌, ◌⊎◌, List, [], ◌∷◌, ◌++◌, Bool, cond, refl, sym, ap, ◌∙◌, subst, inl, inr, arith}
use Rattle.std.specs.Prelude.{Contains, filter, flat_map, ◌==◌}
use Rattle.std.specs.List.{range_with_len}
use Rattle.std.specs.List.Sorted.{IsNonDecreasingBy}
use Rattle.std.proofs.lemmas.Bool.{cases_eq, eq-eqb, ne_eqb}
use Rattle.fleet_base.specs.Lists.{range}
use Rattle.fleet_base.proofs.Members.{head_in, tail_in, in_cons, from_range}
use Rattle.fleet_base.proofs.Sorting.{InOrder}
use Rattle.switch_pairs.proofs.Lists.{filter_none, flat_map_alike, flat_map_none}

pub from_run : (a n r : ℕ) → Contains (range_with_len a n) r → a ≤ r
from_run a n r k = let e : n ≡ a + n - a = omega arith in (from_range a (a + n) r (subst (λ (m : ℕ). Contains (range_with_len a m) r) e k)).0

-- a list that rises from place to place is in order
pub in_order : {X : Type 0} (n : X → ℕ) (xs : List X) → IsNonDecreasingBy n xs → InOrder n xs
in_order n [] up = tt
in_order {X} n (x ∷ xs) up = (λ y k. subst (λ (z : X). n x ≤ n z) k.2 (up 0 (suc k.0) y (omega arith) (omega (arith, k.1))), in_order n xs (λ i j d le lt. up (suc i) (suc j) d (omega (arith, le)) (omega (arith, lt))))

module _ {X : Type 0} (n : X → ℕ) where
  -- the elements with a number
  abbrev pub class : List X → ℕ → List X
  class xs j = filter (λ x. n x == j) xs

  passed_by : (x : X) (xs : List X) (j : ℕ) → n x ≢ j → class (x ∷ xs) j ≡ class xs j
  passed_by x xs j ne = ap (λ (b : Bool). cond b (x ∷ class xs j) (class xs j)) (ne_eqb (n x) j ne)

  none_below : (j : ℕ) (xs : List X) → ((y : X) → Contains xs y → j < n y) → class xs j ≡ []
  none_below j xs up = filter_none (λ x. n x == j) xs (λ y k. ne_eqb (n y) j (λ e. omega (arith, e, up y k)))

  -- an element that is not above the others comes to the front
  front : (l a : ℕ) (x : X) (xs : List X) → a ≤ n x → n x < a + l → ((y : X) → Contains xs y → n x ≤ n y) → flat_map (class (x ∷ xs)) (range_with_len a l) ≡ x ∷ flat_map (class xs) (range_with_len a l)
  front zero a x xs low high up = absurd (omega (arith, low, high))
  front (suc l) a x xs low high up = go (cases_eq (n x) a) (λ lt. front l (a + 1) x xs lt (omega (arith, high)) up)
    where
      above : (y : X) → a < n x → (x ≡ y) ⊎ Contains xs y → a < n y
      above y lt (inl e) = subst (λ (z : X). a < n z) e lt
      above y lt (inr k) = omega (arith, lt, up y k)

      go : (n x ≡ a) ⊎ (n x ≡ a → ⊥) → (a + 1 ≤ n x → flat_map (class (x ∷ xs)) (range_with_len (a + 1) l) ≡ x ∷ flat_map (class xs) (range_with_len (a + 1) l))
          → class (x ∷ xs) a ++ flat_map (class (x ∷ xs)) (range_with_len (a + 1) l) ≡ x ∷ (class xs a ++ flat_map (class xs) (range_with_len (a + 1) l))
      go (inl e) more =
          let here : class (x ∷ xs) a ≡ x ∷ class xs a = ap (λ (b : Bool). cond b (x ∷ class xs a) (class xs a)) (eq-eqb (n x) a e) in
          let others : flat_map (class (x ∷ xs)) (range_with_len (a + 1) l) ≡ flat_map (class xs) (range_with_len (a + 1) l) =
          flat_map_alike (class (x ∷ xs)) (class xs) (range_with_len (a + 1) l) (λ r k. passed_by x xs r (λ f. omega (arith, e, f, from_run (a + 1) l r k))) in
          ap (λ (ys : List X). ys ++ flat_map (class (x ∷ xs)) (range_with_len (a + 1) l)) here ∙ ap (λ (ys : List X). x ∷ (class xs a ++ ys)) others
      go (inr ne) more =
          let lt : a < n x = omega (arith, low, ne) in
          let here : class (x ∷ xs) a ≡ [] = none_below a (x ∷ xs) (λ y k. above y lt (in_cons x xs y k)) in
          let there : class xs a ≡ [] = none_below a xs (λ y k. above y lt (inr k)) in
          ap (λ (ys : List X). ys ++ flat_map (class (x ∷ xs)) (range_with_len (a + 1) l)) here ∙ more (omega (arith, lt))
          ∙ sym (ap (λ (ys : List X). x ∷ (ys ++ flat_map (class xs) (range_with_len (a + 1) l))) there)

  pub classes : (a b : ℕ) (xs : List X) → InOrder n xs → ((x : X) → Contains xs x → (a ≤ n x) × (n x < b)) → xs ≡ flat_map (class xs) (range a b)
  classes a b [] s h = sym (flat_map_none (class []) (range a b) (λ r k. refl))
  classes a b (x ∷ xs) s h =
      let low : a ≤ n x = (h x (head_in x xs)).0 in
      let high : n x < a + (b - a) = omega (arith, (h x (head_in x xs)).0, (h x (head_in x xs)).1) in
      ap (λ (ys : List X). x ∷ ys) (classes a b xs s.1 (λ y k. h y (tail_in x xs y k))) ∙ sym (front (b - a) a x xs low high s.0)
