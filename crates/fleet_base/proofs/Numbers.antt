-- What a number is spelled like, and what the parser of std reads.
use Rattle.std.proofs.Common.{ℕ, suc, zero, ◌≡◌, ◌+◌, ◌/◌, ◌%◌, ◌^◌, ◌<◌, ◌≤◌, List, [], ◌∷◌, ◌++◌, refl, sym, ap, ◌∙◌, subst, inl, inr, ⊎_elim, None, arith, length, get_or}
use Rattle.std.proofs.lemmas.List.{append_assoc}
use Rattle.std.specs.Prelude.{decimal, Result, Ok, Err}
use Rattle.std.specs.Result.{OkIff, result_ok}
use Rattle.std.proofs.lemmas.Bool.{cases_lt}
use Rattle.std.proofs.lemmas.Result.{OkIff-at_ok, OkIff-at_err}
use Rattle.std.specs.Str.{IsUtf8}
use Rattle.std.specs.Str.Parse.{AllDigits, digits_value, ParsesUnsigned}
use Rattle.std.specs.Int.{IsInRange}
use Rattle.std.proofs.lemmas.Str.{IsUtf8-from_ascii}
use Rattle.std.proofs.lemmas.Str.Parse.{IsNumeralModel, numerals_by_value, tells_digits, parse_plain, not_in_digits}
use Rattle.std.proofs.lemmas.Fmt.{digits_decimal, digits_value-decimal, decimal-digits_value, decimal_nonempty, first_decimal, decimal_digit, decimal_step, IsAscii-decimal}
use Rattle.fleet_base.specs.Bytes.{IsNumber, HasSignOrLeadingZero, IsPrefix}

-- texts of digits, and what they are worth
abbrev pub own : IsNumeralModel (AllDigits 10) (digits_value 10)
own = numerals_by_value (AllDigits 10) tells_digits

-- a number has no sign and no leading zero
pub number_is_plain : (text : List ℕ) (n : ℕ) → IsNumber text n → HasSignOrLeadingZero text → ⊥
number_is_plain text n h (inl e) =
    let low : ¬ IsInRange 48 57 43 = λ r. omega (arith, r) in
    not_in_digits own (decimal n) 43 (digits_decimal own n h.fits) low 0 (decimal_nonempty n h.fits) (ap (λ (t : List ℕ). get_or t 0 0) (sym h.digits) ∙ e)
number_is_plain text zero h (inr e) =
    let one : decimal 0 ≡ 48 ∷ [] = decimal_digit 0 (omega arith) in
    omega (arith, e.1, ap (λ (t : List ℕ). length t) (h.digits ∙ one))
number_is_plain text (suc n) h (inr e) =
    omega (arith, first_decimal (suc n) (omega arith) h.fits, ap (λ (t : List ℕ). get_or t 0 0) (sym h.digits) ∙ e.0)

-- and is text
pub number_is_text : (text : List ℕ) (n : ℕ) → IsNumber text n → IsUtf8 text
number_is_text text n h = subst IsUtf8 (sym h.digits) (IsUtf8-from_ascii (decimal n) (IsAscii-decimal n h.fits))

-- a text without a leading zero that begins with one is short
short_zero : (text : List ℕ) → ¬ HasSignOrLeadingZero text → get_or text 0 0 ≡ 48 → length text ≡ 1
short_zero [] plain z = absurd (omega (arith, z))
short_zero (c ∷ []) plain z = refl
short_zero (c ∷ d ∷ cs) plain z = absurd (plain (inr (z, omega arith)))

-- the parser of std reads a plain text as its number, and refuses it where it is none
pub number_parsed : {E : Type 0} (text : List ℕ) (r : Result ℕ E) (n : ℕ) → ¬ HasSignOrLeadingZero text → r ≡ Ok n → ParsesUnsigned 64 10 text r → IsNumber text n
number_parsed text r n plain ok p =
    let q = OkIff-at_ok r _ (digits_value 10 text) n (parse_plain own 64 text r p (λ e. plain (inl e))) ok in
    record {
      digits = sym (ap decimal q.1 ∙ decimal-digits_value own text q.0.0 q.0.1 (short_zero text plain) q.0.2);
      fits = subst (λ (m : ℕ). m < 2 ^ 64) (sym q.1) q.0.2;
    }

pub number_refused : {E : Type 0} (text : List ℕ) (r : Result ℕ E) (e : E) → ¬ HasSignOrLeadingZero text → r ≡ Err e → ParsesUnsigned 64 10 text r → (n : ℕ) → IsNumber text n → ⊥
number_refused text r e plain err p n h =
    OkIff-at_err r _ (digits_value 10 text) e (parse_plain own 64 text r p (λ k. plain (inl k))) err (
      subst (AllDigits 10) (sym h.digits) (digits_decimal own n h.fits),
      omega (arith, decimal_nonempty n h.fits, ap (λ (t : List ℕ). length t) h.digits),
      omega (arith, h.fits, ap (digits_value 10) h.digits ∙ digits_value-decimal own n h.fits),
    )

-- the last digit behind the digits before it
pub last_digit : (old middle new : List ℕ) (n : ℕ) → 10 ≤ n → n < 2 ^ 64 → middle ≡ old ++ decimal (n / 10) → new ≡ middle ++ (48 + n % 10) ∷ [] → new ≡ old ++ decimal n
last_digit old middle new n ten fits m e =
    e ∙ ap (λ (t : List ℕ). t ++ (48 + n % 10) ∷ []) m ∙ append_assoc old (decimal (n / 10)) ((48 + n % 10) ∷ []) ∙ ap (λ (t : List ℕ). old ++ t) (sym (decimal_step n ten fits))

-- what begins the digits before the last one begins the number
pub before_last : (n : ℕ) (front : List ℕ) → 10 ≤ n → n < 2 ^ 64 → IsPrefix front (decimal (n / 10)) → IsPrefix front (decimal n)
before_last n front ten fits p =
    (p.0 ++ (48 + n % 10) ∷ [], sym (append_assoc front p.0 ((48 + n % 10) ∷ [])) ∙ ap (λ (t : List ℕ). t ++ (48 + n % 10) ∷ []) p.1 ∙ sym (decimal_step n ten fits))

-- the digits before the last one
pub all_but_last_digit : (n : ℕ) → 10 ≤ n → n < 2 ^ 64 → IsPrefix (decimal (n / 10)) (decimal n)
all_but_last_digit n ten fits = ((48 + n % 10) ∷ [], sym (decimal_step n ten fits))

-- what does not fit a narrower type
pub too_large : {E : Type 0} → (r : Result ℕ E) (n bound : ℕ) → OkIff r (n < bound) n → None ≡ result_ok r → bound ≤ n
too_large (Ok x) n bound h e = cc
too_large (Err d) n bound h e = ⊎_elim (λ lt. absurd (h lt)) (λ le. le) (cases_lt n bound)
