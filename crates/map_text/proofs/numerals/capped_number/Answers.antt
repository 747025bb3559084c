use Rattle.std.proofs.Common.{◌≡◌, ◌<◌, length, get_or, min, take, below_more, arith, sym, ap, ◌∙◌}
use Rattle.std.proofs.lemmas.Bool.Decides.{nat_tests}
use Rattle.std.proofs.lemmas.List.{take_all}
use Rattle.fleet_base.specs.Bytes.{numeral}
use Rattle.map_text.proofs.Digits.{AreDigits, value_of, value_of_more, numeral_first, numeral_digit, numeral-value_of}
use Rattle.map_text.proofs.numerals.capped_number.Goals as goal
use Rattle.map_text.proofs.numerals.capped_number.Goals.{else-digits-eq48-via-then-digits-eq48+else-digits-gt1, else-digits-eq48-via-else-digits-eq48}

pub returns-then-digits-gt1-clause-none : goal.returns-then-digits-gt1-clause-none
returns-then-digits-gt1-clause-none c = λ n e.
    let first : get_or (numeral n) 0 0 ≡ 48 = ap (λ ds. get_or ds 0 0) (sym e) ∙ c.if-digits-eq48.true in
    omega (arith, numeral_first n first, ap length e)

pub returns-then-not-is_ascii_digit-clause-none : goal.returns-then-not-is_ascii_digit-clause-none
returns-then-not-is_ascii_digit-clause-none c = λ n e.
    let i = c.loop-digit.digit-index in
    let same : get_or c.args.digits.now i 0 ≡ get_or (numeral n) i 0 = ap (λ ds. get_or ds i 0) e in
    let inside : i < length (numeral n) = omega (arith, ap length e) in
    omega (arith, numeral_digit n i inside, c.if-not-is_ascii_digit.ensures.cases)

pub loop-digit-preserved : goal.loop-digit-preserved
loop-digit-preserved c =
    let more = value_of_more c.args.digits.now c.loop-digit.digit-index (omega arith) in
    (below_more _ _ c.loop-digit.invariant.0 c.if-not-is_ascii_digit.ensures.cases, omega arith)

pub returns-clause-some : goal.returns-clause-some
returns-clause-some c =
    let ds = c.args.digits.now in
    let some : 0 < length ds = grind (arith, nat_tests) in
    let all : take c.loop-digit.digit-index ds ≡ ds = take_all _ _ (omega arith) in
    let digits : AreDigits ds (length ds) = λ k inside. c.loop-digit.invariant.0 k (omega arith) in
    let lead : get_or ds 0 0 ≡ 48 → length ds ≡ 1 = λ zero. elim c.else-digits-eq48.branch [
      | else-digits-eq48-via-then-digits-eq48+else-digits-gt1 w ↦ omega arith
      | else-digits-eq48-via-else-digits-eq48 w ↦ absurd (w.if-digits-eq48.false zero)
    ] in
    (value_of ds, numeral-value_of ds some lead digits, c.loop-digit.invariant.1 ∙ ap (λ front. min (value_of front) 4097) all)
