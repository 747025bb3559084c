use Rattle.plan_graph.specs.Views.{IsRankingFor}
use Rattle.rank_bench.proofs.ranks.repeat.Given as goal

abbrev pub invariant-loop : goal.invariant-loop
invariant-loop l = IsRankingFor l.view.graph l.room
