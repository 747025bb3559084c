-- The robots so far have their paths.
use Rattle.cert_check.specs.Sides.{order_by}
use Rattle.cert_check.proofs.PathLaws.{HasTotal}
use Rattle.cert_check.proofs.path.total_length.Given as goal

abbrev pub invariant-loop-robot : goal.invariant-loop-robot
invariant-loop-robot l = HasTotal l.graph l.fleet (order_by l.graph l.fleet l.sides) l.paths l.place l.robot l.total
