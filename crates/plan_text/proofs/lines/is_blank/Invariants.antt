use Rattle.std.proofs.Common.{◌≡◌, [], length}
use Rattle.plan_text.specs.PlanText.{robot_lines}
use Rattle.plan_text.proofs.lines.is_blank.Given as goal

abbrev pub invariant-loop-line : goal.invariant-loop-line
invariant-loop-line l = (robot_lines l.rest ≡ [] → robot_lines l.text ≡ []) × (robot_lines l.text ≡ [] → robot_lines l.rest ≡ [])

abbrev pub decreases-loop-line : goal.decreases-loop-line
decreases-loop-line l = length l.rest
