use Rattle.std.proofs.Common.{◌≡◌}
use Rattle.plan_graph.proofs.tests.rank_with.Given as goal

abbrev pub invariant-loop-q : goal.invariant-loop-q
invariant-loop-q g l = l.view.graph ≡ l.graph
