use Rattle.path_planner.proofs.Retrace.{KeepsOf}
use Rattle.path_planner.proofs.backward.keep_layer.Given as goal

abbrev pub invariant-loop-from : goal.invariant-loop-from
invariant-loop-from l = KeepsOf l.grid l.fixed l.tick l.layer l.next l.from-index l.kept
