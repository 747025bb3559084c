use Rattle.std.proofs.Common.{◌<◌, length}
use Rattle.edge_groups.specs.Finding.{IsCursorFor}
use Rattle.edge_groups.proofs.packing.all_beyond.Given as goal

abbrev pub invariant-loop-q : goal.invariant-loop-q
invariant-loop-q l = l.q < length l.graph.pairs → IsCursorFor l.graph l.cursor 0 262144 l.q
