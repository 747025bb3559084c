use Rattle.std.proofs.Common.{◌≡◌, ◌∷◌}
use Rattle.std.specs.Prelude.{flat_map}
use Rattle.fleet_base.specs.Lists.{range}
use Rattle.fleet_base.specs.Bytes.{text_of_lines}
use Rattle.report_text.specs.declared.answer.Answer.TheVariants.{Ready}
use Rattle.report_text.specs.AnswerLine.{answer_line}
use Rattle.fleet_serve.specs.Lines.{release_lines, pending_of}
use Rattle.fleet_serve.proofs.greeting.greeting_text.Given as goal

abbrev pub invariant-loop-robot : goal.invariant-loop-robot
invariant-loop-robot l = l.text ≡ text_of_lines (answer_line (Ready l.fleet.count) ∷ release_lines l.plan (flat_map (pending_of l.fleet) (range 0 l.robot)))
