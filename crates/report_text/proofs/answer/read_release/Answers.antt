use Rattle.std.proofs.Common.{[], ◌∷◌, refl, ◌∙◌}
use Rattle.report_text.proofs.AnswerLines.{release_is}
use Rattle.report_text.proofs.answer.read_release.Goals as goal

pub returns-in_err-robot-clause-none : goal.returns-in_err-robot-clause-none
returns-in_err-robot-clause-none c =
    rw c.from_residual.ensures (λ visit cell is. c.in_err-robot.ensures.none (visit.robot ∷ visit.index ∷ cell.row ∷ cell.col ∷ [], refl, (is.1.0, (is.1.1, (is.1.2, (is.1.3, tt)))), is.0 ∙ release_is visit cell))
