use Rattle.std.proofs.Common.{[], ◌∷◌, refl, ◌∙◌}
use Rattle.report_text.proofs.AnswerLines.{switch_is}
use Rattle.report_text.proofs.answer.read_switch.Goals as goal

pub returns-in_err-number-clause-none : goal.returns-in_err-number-clause-none
returns-in_err-number-clause-none c =
    rw c.from_residual.ensures (λ pair is. c.in_err-number.ensures.none (pair.0 ∷ [], refl, (is.1, tt), is.0 ∙ switch_is pair))
