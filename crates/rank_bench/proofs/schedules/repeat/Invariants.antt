use Rattle.longest_path.specs.Ticks.{IsKeptFor}
use Rattle.rank_bench.proofs.schedules.repeat.Given as goal

abbrev pub invariant-loop : goal.invariant-loop
invariant-loop l = IsKeptFor l.view.graph l.ticks
