-- A number goes on with a digit exactly where it is not 0 and its value does not pass the bound.
use Rattle.std.proofs.Common.{arith}
use Rattle.report_text.proofs.Numbers.{goes_on_with_digit, first_digit, no_more_digits, next_digit}
use Rattle.report_text.proofs.reading.with_digit.Goals as goal

pub returns-then-not-is_ascii_digit-clause-none : goal.returns-then-not-is_ascii_digit-clause-none
returns-then-not-is_ascii_digit-clause-none c = λ digits n spells longer.
    let digit = goes_on_with_digit c.args.value digits c.args.byte n spells longer in
    let other = c.if-not-is_ascii_digit.ensures.cases in
    omega (arith, other)

pub returns-in_err-checked_mul-in-Some-clause-none : goal.returns-in_err-checked_mul-in-Some-clause-none
returns-in_err-checked_mul-in-Some-clause-none c =
    rw c.from_residual.ensures (no_more_digits c.args.value c.in-Some.value c.args.byte c.in-Some.is (λ _ fits. c.in_err-checked_mul-in-Some.ensures fits))

pub returns-in-None-clause-some : goal.returns-in-None-clause-some
returns-in-None-clause-some c = λ digits spells.
    let digit = c.if-not-is_ascii_digit.ensures.cases in
    first_digit c.args.value c.args.byte c.from-digit.result digits c.in-None.is digit.0 digit.1 c.from-digit.ensures spells

pub returns-in-Some-eq0-clause-none : goal.returns-in-Some-eq0-clause-none
returns-in-Some-eq0-clause-none c =
    let zero = rw c.in-Some-eq0.is at c.in-Some-eq0.field-0-test in
    no_more_digits c.args.value c.in-Some-eq0.field-0 c.args.byte c.in-Some-eq0.is (λ some _. omega arith)

pub returns-in_ok-checked_mul-in-Some-clause-some : goal.returns-in_ok-checked_mul-in-Some-clause-some
returns-in_ok-checked_mul-in-Some-clause-some c =
    let digit = c.if-not-is_ascii_digit.ensures.cases in
    let some = rw c.in-Some.is at c.in-Some.value-test in
    (next_digit c.args.value c.in-Some.value c.args.byte c.in_ok-checked_mul-in-Some.field-0 c.from-digit.result c.checked_add.result c.in-Some.is (omega (arith, some.1)) digit.0 digit.1 c.from-digit.ensures c.in_ok-checked_mul-in-Some.ensures.1 c.checked_add.ensures).0

pub returns-in_ok-checked_mul-in-Some-clause-none : goal.returns-in_ok-checked_mul-in-Some-clause-none
returns-in_ok-checked_mul-in-Some-clause-none c =
    let digit = c.if-not-is_ascii_digit.ensures.cases in
    let some = rw c.in-Some.is at c.in-Some.value-test in
    (next_digit c.args.value c.in-Some.value c.args.byte c.in_ok-checked_mul-in-Some.field-0 c.from-digit.result c.checked_add.result c.in-Some.is (omega (arith, some.1)) digit.0 digit.1 c.from-digit.ensures c.in_ok-checked_mul-in-Some.ensures.1 c.checked_add.ensures).1
