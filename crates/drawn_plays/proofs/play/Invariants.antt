use Rattle.fleet_base.specs.Rules.{IsFleetState}
use Rattle.drawn_plays.proofs.play.Given as goal

abbrev pub invariant-loop : goal.invariant-loop
invariant-loop l = IsFleetState l.graph l.fleet
