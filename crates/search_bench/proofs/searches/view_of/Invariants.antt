use Rattle.std.proofs.Common.{◌≡◌}
use Rattle.search_bench.proofs.searches.view_of.Given as goal

abbrev pub invariant-loop-number : goal.invariant-loop-number
invariant-loop-number l = l.view.graph ≡ l.graph
