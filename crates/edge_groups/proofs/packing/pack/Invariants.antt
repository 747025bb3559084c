use Rattle.std.proofs.Common.{◌≡◌, length}
use Rattle.edge_groups.specs.Kept.{rows_in}
use Rattle.edge_groups.specs.Packing.{IsPacking}
use Rattle.edge_groups.proofs.packing.pack.Given as goal

abbrev pub invariant-loop-first : goal.invariant-loop-first
invariant-loop-first l = IsPacking (rows_in l.lists) l.packed l.first × (length l.packed.places.items ≡ l.count)
