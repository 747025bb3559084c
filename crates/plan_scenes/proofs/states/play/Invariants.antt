use Rattle.fleet_base.specs.Rules.{IsFleetState}
use Rattle.plan_scenes.proofs.states.play.Given as goal

abbrev pub invariant-loop-event : goal.invariant-loop-event
invariant-loop-event l = IsFleetState l.graph l.fleet
