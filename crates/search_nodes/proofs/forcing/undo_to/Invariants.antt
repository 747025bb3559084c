use Rattle.std.proofs.Common.{◌≡◌, ◌-◌, ◌≤◌, length, drop}
use Rattle.search_nodes.proofs.forcing.undo_to.Given as goal

abbrev pub invariant-loop-live : goal.invariant-loop-live
invariant-loop-live l =
    (l.live ≡ record l.fn.live { decisions = drop (length l.fn.live.decisions - length l.live.decisions) l.fn.live.decisions }) × (length l.live.decisions ≤ length l.fn.live.decisions) × (l.depth ≤ length l.live.decisions)

abbrev pub decreases-loop-live : goal.decreases-loop-live
decreases-loop-live l = length l.live.decisions
