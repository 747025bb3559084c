-- Where a byte first stands in a text.
use Rattle.std.proofs.Common.{ℕ, Some, None, ltb, ◌+◌, ◌<◌, ◌≤◌, ◌≡◌, ◌≢◌, Bool, true, false, cond, eqb, List, ◌∷◌, length, take, drop, get_or, sym, ◌∙◌, ap, refl, arith}
use Rattle.std.specs.Prelude.{◌==◌, position}
use Rattle.std.specs.List.{AllByRecursion, position_or_len}
use Rattle.std.proofs.lemmas.Bool.{eqb-true, eqb-false, ltb-false}
use Rattle.std.proofs.lemmas.List.{drop_more, get_or-take, length-take-le}
use Rattle.std.proofs.lemmas.List.Elements.{recursion_from_All, All-from_get_or}
use Rattle.std.proofs.lemmas.List.Quantifiers.{position-Some}
use Rattle.std.proofs.lemmas.List.Sums.{fails_before_first}
use Rattle.std.proofs.lemmas.Option.{none-some}

-- what holds of no place holds of no byte
absent_from : (b : ℕ) (xs : List ℕ) → ((k : ℕ) → k < length xs → eqb (get_or xs k 0) b ≡ false) → AllByRecursion (λ c. c ≢ b) xs
absent_from b xs none = recursion_from_All (λ c. c ≢ b) xs (All-from_get_or (λ c. c ≢ b) xs 0 (λ k h. eqb-false (get_or xs k 0) b (none k h)))

-- the byte stands there
pub found : (b : ℕ) (xs : List ℕ) (i : ℕ) → position (λ byte. byte == b) xs ≡ Some i → drop i xs ≡ b ∷ drop (i + 1) xs
found b xs i e =
    let at = position-Some (λ byte. byte == b) xs i 0 e in
    drop_more xs i 0 at.0 ∙ ap (λ c. c ∷ drop (i + 1) xs) (eqb-true (get_or xs i 0) b at.1)

-- and not before
pub absent_before : (b : ℕ) (xs : List ℕ) (i : ℕ) → position (λ byte. byte == b) xs ≡ Some i → AllByRecursion (λ c. c ≢ b) (take i xs)
absent_before b xs i e =
    let at = position-Some (λ byte. byte == b) xs i 0 e in
    absent_from b (take i xs) (λ k h. before k h at.0 (at.2 k))
  where
    before : (k : ℕ) → k < length (take i xs) → i < length xs → (k < i → eqb (get_or xs k 0) b ≡ false) → eqb (get_or (take i xs) k 0) b ≡ false
    before k h within f =
        let low : k < i = omega (arith, length-take-le i xs (omega arith)) in
        ap (λ c. eqb c b) (get_or-take i xs k 0 low) ∙ f low

-- where no place is found the byte is not there
pub absent : (b : ℕ) (xs : List ℕ) → position (λ byte. byte == b) xs ≡ None → AllByRecursion (λ c. c ≢ b) xs
absent b xs e = absent_from b xs (λ k h. fails_before_first (λ byte. byte == b) xs k 0 (far k h))
  where
    all : length xs ≤ position_or_len (λ byte. byte == b) xs
    all = go (ltb (position_or_len (λ byte. byte == b) xs) (length xs)) refl e
      where
        go : (t : Bool) → ltb (position_or_len (λ byte. byte == b) xs) (length xs) ≡ t → cond t (Some (position_or_len (λ byte. byte == b) xs)) None ≡ None → length xs ≤ position_or_len (λ byte. byte == b) xs
        go true t h = absurd (none-some (position_or_len (λ byte. byte == b) xs) (sym h))
        go false t h = ltb-false (position_or_len (λ byte. byte == b) xs) (length xs) t

    far : (k : ℕ) → k < length xs → k < position_or_len (λ byte. byte == b) xs
    far k h = omega (arith, all)
