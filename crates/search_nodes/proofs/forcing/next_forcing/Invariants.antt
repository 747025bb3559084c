use Rattle.std.specs.BTreeSet.{btree_set_len}
use Rattle.longest_path.specs.Deciding.{order_in_force}
use Rattle.search_nodes.specs.Forcing.{AreThere, HasForced}
use Rattle.search_nodes.proofs.forcing.next_forcing.Given as goal

abbrev pub invariant-loop-number : goal.invariant-loop-number
invariant-loop-number l =
    AreThere l.live.graph l.suspects.keys × (HasForced l.live.graph (order_in_force l.live) l.fn.suspects.keys → HasForced l.live.graph (order_in_force l.live) l.suspects.keys)

abbrev pub decreases-loop-number : goal.decreases-loop-number
decreases-loop-number l = btree_set_len l.suspects
