use Rattle.std.proofs.Common.{◌≡◌}
use Rattle.longest_path.specs.Ticks.{IsKeptFor}
use Rattle.search_trials.proofs.orders.cheapest.Given as goal

abbrev pub invariant-loop-mask : goal.invariant-loop-mask
invariant-loop-mask l = (l.view.graph ≡ l.graph) × IsKeptFor l.graph l.ticks
