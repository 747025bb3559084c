-- Numerals, digit by digit.
use Rattle.std.proofs.Common.{ℕ, zero, suc, ◌+◌, ◌*◌, ◌/◌, ◌%◌, ◌^◌, ◌<◌, ◌≤◌, ◌≡◌, List, [], ◌∷◌, ◌++◌, map, eqb, sym, ◌∙◌, ap, subst, arith}
use Rattle.std.specs.Fmt.{decimal}
use Rattle.std.specs.Int.Digits.{digits_of}
use Rattle.std.proofs.lemmas.Bool.{cond-false, ne_eqb}
use Rattle.std.proofs.lemmas.Fmt.{decimal-digits_of, decimal_digit, decimal_step, decimal_by_steps}
use Rattle.fleet_base.specs.Bytes.{numeral}

-- a numeral is what std writes for the number
pub numeral-decimal : (n : ℕ) → n < 2 ^ 64 → numeral n ≡ decimal n
numeral-decimal zero small = sym (decimal_digit 0 (omega arith))
numeral-decimal (suc n) small =
    cond-false (eqb (suc n) 0) (48 ∷ []) (map (λ d. 48 + d) (digits_of 10 (suc n))) (ne_eqb (suc n) 0 (λ e. omega arith)) ∙ sym (decimal-digits_of (suc n) (omega arith) small)

-- one digit
pub numeral_digit : (d : ℕ) → d < 10 → numeral d ≡ (48 + d) ∷ []
numeral_digit d small = numeral-decimal d (omega arith) ∙ decimal_digit d small

-- a number of at most three digits with one more
pub numeral_more : (n d : ℕ) → 0 < n → n < 1000 → d < 10 → numeral n ++ (48 + d) ∷ [] ≡ numeral (10 * n + d)
numeral_more n d some few small =
    let front : (10 * n + d) / 10 ≡ n = omega arith in
    let last : (10 * n + d) % 10 ≡ d = omega arith in
    let whole : decimal (10 * n + d) ≡ decimal ((10 * n + d) / 10) ++ (48 + (10 * n + d) % 10) ∷ [] = decimal_step (10 * n + d) (omega arith) (omega arith) in
    let parts : decimal (10 * n + d) ≡ decimal n ++ (48 + d) ∷ [] = whole ∙ ap (λ m. decimal m ++ (48 + (10 * n + d) % 10) ∷ []) front ∙ ap (λ m. decimal n ++ (48 + m) ∷ []) last in
    ap (λ ds. ds ++ (48 + d) ∷ []) (numeral-decimal n (omega arith)) ∙ sym parts ∙ sym (numeral-decimal (10 * n + d) (omega arith))

-- what holds of one digit, and of a numeral with one more digit, holds of each numeral
pub numeral_by_steps : (P : ℕ → List ℕ → Type 0) → ((n : ℕ) → n < 10 → P n ((48 + n) ∷ [])) → ((n : ℕ) (ds : List ℕ) → 10 ≤ n → P (n / 10) ds → P n (ds ++ ((48 + n % 10) ∷ []))) → (n : ℕ) → n < 2 ^ 64 → P n (numeral n)
numeral_by_steps P one more n small = subst (P n) (sym (numeral-decimal n small)) (decimal_by_steps P one more n small)
