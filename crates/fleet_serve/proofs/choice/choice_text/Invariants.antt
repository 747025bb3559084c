use Rattle.std.proofs.Common.{◌≡◌, ◌∷◌, take}
use Rattle.report_text.specs.AnswerLine.{answer_line}
use Rattle.fleet_serve.specs.Chosen.{order_answer, switch_lines}
use Rattle.fleet_serve.proofs.choice.choice_text.Given as goal
use Rattle.fleet_base.specs.Bytes.{text_of_lines}

abbrev pub invariant-loop-pair : goal.invariant-loop-pair
invariant-loop-pair l = l.text ≡ text_of_lines (answer_line (order_answer l.found.cost l.found.outcome) ∷ switch_lines (take l.pair-index l.switched))
