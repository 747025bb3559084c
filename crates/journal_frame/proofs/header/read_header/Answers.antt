use Rattle.std.proofs.Common.{sym, ◌∙◌, arith}
use Rattle.std.proofs.lemmas.Result.{err_from_is_err_and}
use Rattle.journal_frame.specs.Reading.{header_of}
use Rattle.journal_frame.proofs.FieldLaws.{refused, some_is}
use Rattle.journal_frame.proofs.HeaderLaws.{header_takes, header_again}
use Rattle.journal_frame.proofs.header.read_header.Goals as goal

pub returns-in_err-generation-clause-only : goal.returns-in_err-generation-clause-only
returns-in_err-generation-clause-only c = λ h is.
    let p = err_from_is_err_and c.from_residual.result c.from_residual.ensures.1 in
    rw (p.1, p.2) (refused c.in_err-generation.field-0.0 (header_of c.args.payload.now) h c.in_err-generation.ensures (header_again c.args.payload.now h is))

pub returns-clause-read : goal.returns-clause-read
returns-clause-read c =
    rw (c.in_ok-from_slice.ensures, c.in_ok-from_slice-2.ensures) (header_takes c.args.payload.now _ (λ i. omega (arith, c.type_inv.payload i)) c.in_ok-generation.ensures)

pub returns-clause-only : goal.returns-clause-only
returns-clause-only c = λ h is.
    rw (c.in_ok-from_slice.ensures, c.in_ok-from_slice-2.ensures) (some_is _ h (sym c.in_ok-generation.ensures ∙ header_again c.args.payload.now h is))
