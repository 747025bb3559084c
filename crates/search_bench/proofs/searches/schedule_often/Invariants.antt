use Rattle.longest_path.specs.Ticks.{IsKeptFor}
use Rattle.search_bench.proofs.searches.schedule_often.Given as goal

abbrev pub invariant-loop : goal.invariant-loop
invariant-loop l = IsKeptFor l.view.graph l.ticks
