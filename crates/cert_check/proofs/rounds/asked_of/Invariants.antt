-- The tick is at least what was asked so far, and no more than all that is asked.
use Rattle.cert_check.specs.Sides.{order_by}
use Rattle.cert_check.proofs.AskLaws.{HasAsked}
use Rattle.cert_check.proofs.rounds.asked_of.Given as goal
use Rattle.fleet_base.specs.VisitRows.{tick_in}

abbrev pub invariant-loop-q : goal.invariant-loop-q
invariant-loop-q l = HasAsked l.graph l.fleet (order_by l.graph l.fleet l.sides) (tick_in l.ticks) l.v l.q-index l.tick
