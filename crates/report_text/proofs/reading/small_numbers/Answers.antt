-- A line with a larger number is no line of small numbers, since a line has one reading.
use Rattle.std.proofs.Common.{◌≤◌, ◌^◌, get_or, arith}
use Rattle.fleet_base.proofs.Numbers.{too_large}
use Rattle.report_text.proofs.Spelling.{spelled_small, not_small}
use Rattle.report_text.proofs.reading.small_numbers.Goals as goal

pub returns-in_err-numbers-clause-none : goal.returns-in_err-numbers-clause-none
returns-in_err-numbers-clause-none g c =
    rw c.from_residual.ensures (λ small. c.in_err-numbers.ensures.none (spelled_small c.args.words.now g.row.N c.args.line.now small))

pub returns-in_err-small-clause-none : goal.returns-in_err-small-clause-none
returns-in_err-small-clause-none g c =
    let numbers = c.in_ok-numbers.numbers in
    let i = c.loop-at.at in
    let large : 2 ^ 32 ≤ get_or numbers i 0 = too_large c.try_from.result (get_or numbers i 0) (2 ^ 32) c.try_from.ensures c.in_err-small.ensures.value in
    rw c.from_residual-in_err-small.ensures
    (not_small c.args.words.now g.row.N c.args.line.now numbers i c.in_ok-numbers.ensures.some.0 c.in_ok-numbers.ensures.some.1 (omega arith) large)
