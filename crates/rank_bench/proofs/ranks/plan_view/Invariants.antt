use Rattle.std.proofs.Common.{◌≡◌}
use Rattle.rank_bench.proofs.ranks.plan_view.Given as goal

abbrev pub invariant-loop-q : goal.invariant-loop-q
invariant-loop-q l = l.view.graph ≡ l.graph
