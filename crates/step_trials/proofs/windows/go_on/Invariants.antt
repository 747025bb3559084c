use Rattle.fleet_base.specs.Rules.{IsFleetState}
use Rattle.step_trials.proofs.windows.go_on.Given as goal

abbrev pub invariant-loop-turn : goal.invariant-loop-turn
invariant-loop-turn l = IsFleetState l.graph l.fleet
