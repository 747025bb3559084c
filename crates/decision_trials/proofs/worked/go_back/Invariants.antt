use Rattle.std.proofs.Common.{◌≡◌, length}
use Rattle.decision_trials.proofs.worked.go_back.Given as goal

abbrev pub invariant-loop-alloc : goal.invariant-loop-alloc
invariant-loop-alloc l = (l.live.graph ≡ l.graph) × (l.live.state ≡ l.fleet)

abbrev pub decreases-loop-alloc : goal.decreases-loop-alloc
decreases-loop-alloc l = length l.live.decisions
