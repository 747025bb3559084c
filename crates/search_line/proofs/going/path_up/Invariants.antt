use Rattle.std.proofs.Common.{◌<◌, length}
use Rattle.search_line.specs.Going.{LeadUp, LiesBelow}
use Rattle.search_line.proofs.going.path_up.Given as goal

abbrev pub invariant-loop-at : goal.invariant-loop-at
invariant-loop-at l = record { there : l.at < length l.nodes; up : LeadUp l.nodes l.fn.number l.path.items l.at; below : LiesBelow l.nodes l.at l.above }

abbrev pub decreases-loop-at : goal.decreases-loop-at
decreases-loop-at l = l.at
