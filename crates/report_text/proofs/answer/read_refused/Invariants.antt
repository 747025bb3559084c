-- The line is none of the refusals so far.
use Rattle.std.proofs.Common.{◌≡◌, ◌++◌, ◌<◌, ℕ, get_or}
use Rattle.std.specs.Prelude.{codes}
use Rattle.fleet_base.specs.declared.report.Why.TheVariants.{Line}
use Rattle.report_text.specs.declared.answer.TheConstants.{REFUSALS}
use Rattle.report_text.specs.AnswerLine.{word_of}
use Rattle.report_text.proofs.answer.read_refused.Given as goal

abbrev pub invariant-loop-why : goal.invariant-loop-why
invariant-loop-why l = (k : ℕ) → k < l.why-index → l.line ≡ codes "refused " ++ word_of (get_or REFUSALS k Line) → ⊥
