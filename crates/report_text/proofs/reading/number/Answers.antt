-- Where the digits stop, they are the longest front that is a number.
use Rattle.std.proofs.Common.{ℕ, take, Option, subst, arith}
use Rattle.std.proofs.lemmas.List.{take_rest}
use Rattle.report_text.specs.Reading.{Spells}
use Rattle.report_text.proofs.Numbers.{StopsAt, number_taken, no_number}
use Rattle.report_text.proofs.reading.number.Goals as goal

pub returns-in_err-value-in-None-clause-none : goal.returns-in_err-value-in-None-clause-none
returns-in_err-value-in-None-clause-none c =
    let none = subst (λ (o : Option ℕ). Spells o (take c.loop-at.at c.args.text.now)) (c.in_err-value-in-None.was) c.loop-at.invariant in
    rw c.from_residual.ensures
    (no_number c.args.text.now c.loop-at.at (λ inside n is. c.in-None.ensures.none (take c.loop-at.at c.args.text.now) n c.loop-at.invariant is) none)

pub returns-in-None-clause-some : goal.returns-in-None-clause-some
returns-in-None-clause-some c =
    let number = subst (λ (o : Option ℕ). Spells o (take c.loop-at.at c.args.text.now)) (c.in_ok-value-in-None.was) c.loop-at.invariant in
    rw take_rest
    (number_taken c.args.text.now c.loop-at.at c.in_ok-value-in-None.field-0 (omega arith) (λ inside n is. c.in-None.ensures.none (take c.loop-at.at c.args.text.now) n c.loop-at.invariant is) number)

pub returns-in_err-value-clause-none : goal.returns-in_err-value-clause-none
returns-in_err-value-clause-none c =
    let none = subst (λ (o : Option ℕ). Spells o (take c.loop-at.at c.args.text.now)) (c.in_err-value.was) c.loop-at.invariant in
    let stops : StopsAt c.args.text.now c.loop-at.at = λ inside n is. absurd (omega arith) in
    rw c.from_residual-in_err-value.ensures (no_number c.args.text.now c.loop-at.at stops none)
