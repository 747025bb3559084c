use Rattle.std.proofs.Common.{sym, ◌∙◌, map, IsTrue, arith}
use Rattle.std.specs.List.Sorted.{IsStrictlyIncreasing}
use Rattle.std.proofs.lemmas.Result.{err_from_is_err_and}
use Rattle.journal_frame.specs.Reading.{entry_of}
use Rattle.journal_frame.proofs.FieldLaws.{refused, some_is}
use Rattle.journal_frame.proofs.EntryLaws.{entry_takes, entry_again, read_in_order}
use Rattle.journal_frame.proofs.entry.read_entry.Goals as goal

pub returns-in_err-report-clause-only : goal.returns-in_err-report-clause-only
returns-in_err-report-clause-only c = λ entry is.
    let p = err_from_is_err_and c.from_residual.result c.from_residual.ensures.1 in
    rw (p.1, p.2) (refused c.in_err-report.field-0.0 (entry_of c.args.payload.now) (entry.report, entry.switched) c.in_err-report.ensures (entry_again c.args.payload.now entry is))

pub returns-then-not-is_ascending-clause-only : goal.returns-then-not-is_ascending-clause-only
returns-then-not-is_ascending-clause-only c = λ entry is.
    let order : IsStrictlyIncreasing (map (λ q. q.0) c.in_ok-report.switched) = read_in_order c.args.payload.now (c.in_ok-report.report, c.in_ok-report.switched) entry c.in_ok-report.ensures is in
    let yes = c.is_ascending.ensures.1 (rw c.as_slice.ensures order) in
    absurd cc

pub returns-clause-read : goal.returns-clause-read
returns-clause-read c =
    let yes : IsTrue c.is_ascending.result = cc in
    let order : IsStrictlyIncreasing (map (λ q. q.0) c.in_ok-report.switched) = rw (← c.as_slice.ensures) (c.is_ascending.ensures.0 yes) in
    entry_takes c.args.payload.now (c.in_ok-report.report, c.in_ok-report.switched) (λ i. omega (arith, c.type_inv.payload i)) c.in_ok-report.ensures order

pub returns-clause-only : goal.returns-clause-only
returns-clause-only c = λ entry is. some_is _ (entry.report, entry.switched) (sym c.in_ok-report.ensures ∙ entry_again c.args.payload.now entry is)
