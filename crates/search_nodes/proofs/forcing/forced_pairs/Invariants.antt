use Rattle.longest_path.specs.Deciding.{order_in_force}
use Rattle.search_nodes.proofs.Suspects.{AreForcedTo}
use Rattle.search_nodes.proofs.forcing.forced_pairs.Given as goal

abbrev pub invariant-loop-number : goal.invariant-loop-number
invariant-loop-number l = AreForcedTo l.live.graph (order_in_force l.live) l.number l.suspects.keys
