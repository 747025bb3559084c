use Rattle.std.proofs.Common.{[], ◌∷◌, refl, ◌∙◌}
use Rattle.report_text.proofs.AnswerLines.{done_is}
use Rattle.report_text.proofs.answer.read_done.Goals as goal

pub returns-in_err-count-clause-none : goal.returns-in_err-count-clause-none
returns-in_err-count-clause-none c =
    rw c.from_residual.ensures (λ count is. c.in_err-count.ensures.none (count ∷ [], refl, (is.1, tt), is.0 ∙ done_is count))
