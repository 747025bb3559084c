use Rattle.std.proofs.Common.{◌≡◌}
use Rattle.decision_trials.proofs.following.follow.Given as goal

abbrev pub invariant-loop : goal.invariant-loop
invariant-loop l = (l.live.graph ≡ l.graph) × (l.live.state ≡ l.fleet)
