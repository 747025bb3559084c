use Rattle.std.proofs.Common.{◌≡◌}
use Rattle.search_trials.proofs.orders.turn.Given as goal

abbrev pub invariant-loop-q : goal.invariant-loop-q
invariant-loop-q l = l.view.graph ≡ l.initial.view.graph
