-- The pairs before a place lead on to the last edge.
use Rattle.cert_check.specs.Sides.{order_by}
use Rattle.cert_check.proofs.CycleLaws.{Goes}
use Rattle.cert_check.proofs.cycle.is_cycle.Given as goal

abbrev pub invariant-loop-place : goal.invariant-loop-place
invariant-loop-place l = Goes l.graph (order_by l.graph l.fleet l.sides) l.cycle l.place l.last
