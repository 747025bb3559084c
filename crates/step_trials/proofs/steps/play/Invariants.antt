use Rattle.fleet_base.specs.Rules.{IsFleetState}
use Rattle.step_trials.proofs.steps.play.Given as goal

abbrev pub invariant-loop-robot : goal.invariant-loop-robot
invariant-loop-robot g l = IsFleetState l.graph l.fleet
