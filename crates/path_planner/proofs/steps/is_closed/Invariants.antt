use Rattle.path_planner.proofs.Back.{IsBack, left_back}
use Rattle.path_planner.proofs.steps.is_closed.Given as goal

abbrev pub invariant-loop-entering : goal.invariant-loop-entering
invariant-loop-entering l = IsBack l.fixed l.tick l.from l.fn.to l.entering

abbrev pub decreases-loop-entering : goal.decreases-loop-entering
decreases-loop-entering l = left_back l.fixed l.tick l.entering
