-- Lists joined over a range of numbers.
use Rattle.std.proofs.Common.{ℕ, ◌≡◌, ◌≢◌, ◌+◌, ◌-◌, ◌<◌, ◌≤◌, List, [], ◌∷◌, ◌++◌, append-nil, ap, ◌∙◌, arith}
use Rattle.std.specs.Prelude.{flat_map}
use Rattle.std.proofs.lemmas.List.Concat.{flat_map-append}
use Rattle.fleet_base.specs.Lists.{range}
use Rattle.fleet_base.proofs.Members.{from_range}
use Rattle.fleet_base.proofs.Ranges.{range_parts, range_first, range_more}
use Rattle.switch_pairs.proofs.Lists.{flat_map_none}

-- a list joined over one number more
pub flat_map_more : {Y : Type 0} (f : ℕ → List Y) (n : ℕ) → flat_map f (range 0 (n + 1)) ≡ flat_map f (range 0 n) ++ f n
flat_map_more {Y} f n = ap (flat_map f) (range_more n) ∙ flat_map-append f (range 0 n) (n ∷ []) ∙ ap (λ (l : List Y). flat_map f (range 0 n) ++ l) (append-nil (f n))

-- where only one number has a list, the joined list is that one
pub flat_map_one : {Y : Type 0} (f : ℕ → List Y) (a b j : ℕ) → a ≤ j → j < b → ((r : ℕ) → r ≢ j → f r ≡ []) → flat_map f (range a b) ≡ f j
flat_map_one {Y} f a b j low high none =
    let up : j ≤ b = omega arith in
    let before : flat_map f (range a j) ≡ [] = flat_map_none f (range a j) (λ r k. none r (below r (from_range a j r k).1)) in
    let after : flat_map f (range (j + 1) b) ≡ [] = flat_map_none f (range (j + 1) b) (λ r k. none r (above r (from_range (j + 1) b r k).0)) in
    ap (flat_map f) (range_parts a j b low up) ∙ flat_map-append f (range a j) (range j b) ∙ ap (λ (l : List Y). l ++ flat_map f (range j b)) before
    ∙ ap (flat_map f) (range_first j b high) ∙ ap (λ (l : List Y). f j ++ l) after ∙ append-nil (f j)
  where
    below : (r : ℕ) → r < j → r ≢ j
    below r lt e = omega (arith, lt, e)

    above : (r : ℕ) → j + 1 ≤ r → r ≢ j
    above r le e = omega (arith, le, e)

-- where the numbers below one have no list, the joined list is that of the others
pub flat_map_from : {Y : Type 0} (f : ℕ → List Y) (a b c : ℕ) → a ≤ b → b ≤ c → ((r : ℕ) → r < b → f r ≡ []) → flat_map f (range a c) ≡ flat_map f (range b c)
flat_map_from {Y} f a b c h k none =
    let before : flat_map f (range a b) ≡ [] = flat_map_none f (range a b) (λ r m. none r (from_range a b r m).1) in
    ap (flat_map f) (range_parts a b c h k) ∙ flat_map-append f (range a b) (range b c) ∙ ap (λ (l : List Y). l ++ flat_map f (range b c)) before
