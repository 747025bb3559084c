-- The round has come to a visit, and the rows are as long as they were.
use Rattle.cert_check.specs.Sides.{order_by}
use Rattle.cert_check.proofs.RoundLaws.{Raising}
use Rattle.cert_check.proofs.rounds.raise_all.Given as goal
use Rattle.fleet_base.specs.VisitRows.{tick_in, KeepsRows}

abbrev pub invariant-loop-robot : goal.invariant-loop-robot
invariant-loop-robot l = Raising l.graph l.fleet (order_by l.graph l.fleet l.sides) (tick_in l.fn.ticks) (tick_in l.ticks) l.robot 0 l.raised × KeepsRows l.fn.ticks l.ticks

abbrev pub invariant-loop-index : goal.invariant-loop-index
invariant-loop-index l = Raising l.graph l.fleet (order_by l.graph l.fleet l.sides) (tick_in l.fn.ticks) (tick_in l.ticks) l.robot l.index l.raised × KeepsRows l.fn.ticks l.ticks
