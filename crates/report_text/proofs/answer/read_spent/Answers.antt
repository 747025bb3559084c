use Rattle.std.proofs.Common.{[], ◌∷◌, refl, ◌∙◌}
use Rattle.report_text.proofs.AnswerLines.{spent_is}
use Rattle.report_text.proofs.answer.read_spent.Goals as goal

pub returns-in_err-cost-clause-none : goal.returns-in_err-cost-clause-none
returns-in_err-cost-clause-none c =
    rw c.from_residual.ensures (λ cost least is. c.in_err-cost.ensures.none (cost ∷ least ∷ [], refl, (is.1.0, (is.1.1, tt)), is.0 ∙ spent_is cost least))
