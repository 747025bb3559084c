use Rattle.std.proofs.Common.{IsTrue, false, refl}
use Rattle.fleet_base.proofs.Numbers.{number_is_plain, number_is_text, number_parsed, number_refused}
use Rattle.fleet_base.proofs.number.read_number.Goals as goal

pub returns-then-has_sign_or_leading_zero-clause-none : goal.returns-then-has_sign_or_leading_zero-clause-none
returns-then-has_sign_or_leading_zero-clause-none c = λ n h. number_is_plain c.args.text.now n h (c.if-has_sign_or_leading_zero.ensures.0 refl)

pub returns-in-Ok-parse-clause-value : goal.returns-in-Ok-parse-clause-value
returns-in-Ok-parse-clause-value c =
    number_parsed c.args.text.now c.parse.result c.in-Ok-parse.value (λ h. let e : IsTrue false = c.if-has_sign_or_leading_zero.ensures.1 h in cc) c.in-Ok-parse.is (rw c.in-Ok.ensures.cases.0 at c.parse.ensures.value.0)

pub returns-in-Err-parse-clause-none : goal.returns-in-Err-parse-clause-none
returns-in-Err-parse-clause-none c =
    number_refused c.args.text.now c.parse.result c.in-Err-parse.field-0 (λ h. let e : IsTrue false = c.if-has_sign_or_leading_zero.ensures.1 h in cc) c.in-Err-parse.is (rw c.in-Ok.ensures.cases.0 at c.parse.ensures.value.0)

pub returns-in-Err-clause-none : goal.returns-in-Err-clause-none
returns-in-Err-clause-none c = λ n h. c.in-Err.ensures.cases.0 (number_is_text c.args.text.now n h)
