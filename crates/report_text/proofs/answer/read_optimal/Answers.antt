use Rattle.std.proofs.Common.{[], ◌∷◌, refl, ◌∙◌}
use Rattle.report_text.proofs.AnswerLines.{optimal_is}
use Rattle.report_text.proofs.answer.read_optimal.Goals as goal

pub returns-in_err-cost-clause-none : goal.returns-in_err-cost-clause-none
returns-in_err-cost-clause-none c =
    rw c.from_residual.ensures (λ cost is. c.in_err-cost.ensures.none (cost ∷ [], refl, (is.1, tt), is.0 ∙ optimal_is cost))
