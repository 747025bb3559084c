use Rattle.std.proofs.Common.{◌++◌, ℕ, List, ap, ◌∙◌}
use Rattle.report_text.specs.declared.answer.Answer.TheVariants.{Ready}
use Rattle.report_text.specs.AnswerLine.{answer_line}
use Rattle.fleet_serve.specs.Lines.{release_lines, pending_of}
use Rattle.fleet_serve.proofs.Texts.{greeting_more}
use Rattle.fleet_serve.proofs.greeting.greeting_text.Goals as goal
use Rattle.fleet_base.specs.Bytes.{text_of_lines}

pub loop-robot-preserved : goal.loop-robot-preserved
loop-robot-preserved c =
    c.in_ok-push_pending.ensures ∙ ap (λ (t : List ℕ). t ++ text_of_lines (release_lines c.args.plan.now (pending_of c.args.fleet.now c.loop-robot.robot))) c.loop-robot.invariant
    ∙ greeting_more c.args.plan.now c.args.fleet.now (answer_line (Ready c.args.fleet.now.count)) c.loop-robot.robot
