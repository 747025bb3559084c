use Rattle.std.proofs.Common.{◌≡◌}
use Rattle.schedule_trials.proofs.drawn.drawn_view.Given as goal

abbrev pub invariant-loop-number : goal.invariant-loop-number
invariant-loop-number l = l.view.graph ≡ l.graph
