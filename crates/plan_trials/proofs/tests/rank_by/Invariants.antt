use Rattle.std.proofs.Common.{◌≡◌}
use Rattle.plan_trials.proofs.tests.rank_by.Given as goal

abbrev pub invariant-loop-q : goal.invariant-loop-q
invariant-loop-q g l = l.view.graph ≡ l.graph
