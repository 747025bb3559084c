-- So many rounds are done, and the rows are as long as they were.
use Rattle.cert_check.specs.Sides.{order_by}
use Rattle.cert_check.proofs.RoundLaws.{Relaxing}
use Rattle.cert_check.proofs.rounds.relax.Given as goal
use Rattle.fleet_base.specs.VisitRows.{tick_in, KeepsRows}

abbrev pub invariant-loop-round : goal.invariant-loop-round
invariant-loop-round l = Relaxing l.graph l.fleet (order_by l.graph l.fleet l.sides) l._round (tick_in l.ticks) × KeepsRows l.fn.ticks l.ticks
