use Rattle.path_planner.proofs.Retrace.{IsLeastOf}
use Rattle.path_planner.proofs.backward.least_step.Given as goal

abbrev pub invariant-loop-to : goal.invariant-loop-to
invariant-loop-to l = IsLeastOf l.grid l.fixed l.tick l.from l.next l.to-items l.to-index l.least
