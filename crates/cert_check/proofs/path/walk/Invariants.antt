-- The walk goes on from the visit at hand.
use Rattle.cert_check.specs.Sides.{order_by}
use Rattle.cert_check.proofs.WalkLaws.{HasWalked}
use Rattle.cert_check.proofs.path.walk.Given as goal

abbrev pub invariant-loop-q : goal.invariant-loop-q
invariant-loop-q l = HasWalked l.graph l.fleet (order_by l.graph l.fleet l.sides) l.robot l.fn.from l.fn.start l.pairs l.q-index l.at l.tick
