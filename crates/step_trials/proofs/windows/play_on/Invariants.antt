use Rattle.fleet_base.specs.Rules.{IsFleetState}
use Rattle.step_trials.proofs.windows.play_on.Given as goal

abbrev pub invariant-loop : goal.invariant-loop
invariant-loop l = IsFleetState l.graph l.fleet
