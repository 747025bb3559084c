use Rattle.search_line.specs.Going.{AreThoseOf, LiesBelow}
use Rattle.search_nodes.specs.Making.{KeepsBest}
use Rattle.search_line.proofs.going.climb.Given as goal

abbrev pub invariant-loop-at : goal.invariant-loop-at
invariant-loop-at l = record { those : AreThoseOf l.nodes l.at l.maker.decisions; below : LiesBelow l.nodes l.at l.above; best : KeepsBest l.fn.maker l.maker }

abbrev pub decreases-loop-at : goal.decreases-loop-at
decreases-loop-at l = l.at
