use Rattle.std.proofs.Common.{◌≡◌}
use Rattle.decision_trials.proofs.worked.goes_round.Given as goal

abbrev pub invariant-loop-number : goal.invariant-loop-number
invariant-loop-number l = (l.live.graph ≡ l.graph) × (l.live.state ≡ l.fleet)
