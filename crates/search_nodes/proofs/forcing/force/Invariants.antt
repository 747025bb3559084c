use Rattle.std.proofs.Common.{length}
use Rattle.longest_path.specs.Deciding.{order_in_force}
use Rattle.search_nodes.proofs.Forcings.{IsForcingOn}
use Rattle.search_nodes.proofs.Suspects.{missing}
use Rattle.search_nodes.proofs.forcing.force.Given as goal

abbrev pub invariant-loop-forcing : goal.invariant-loop-forcing
invariant-loop-forcing l = IsForcingOn l.fn.live l.live l.fn.suspects.keys l.suspects.keys l.forced

abbrev pub decreases-loop-forcing : goal.decreases-loop-forcing
decreases-loop-forcing l = missing (order_in_force l.live) (length l.live.graph.pairs)
