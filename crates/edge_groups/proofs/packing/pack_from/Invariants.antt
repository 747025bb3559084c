use Rattle.std.proofs.Common.{◌≡◌, ◌⊎◌}
use Rattle.edge_groups.specs.Kept.{rows_in}
use Rattle.edge_groups.specs.Naming.{IsNamed, unnamed_in}
use Rattle.edge_groups.specs.Packing.{IsPacking}
use Rattle.edge_groups.proofs.packing.pack_from.Given as goal

abbrev pub invariant-loop-q : goal.invariant-loop-q
invariant-loop-q l = IsPacking (rows_in l.lists) l.packed l.first × ((l.q ≡ l.first) ⊎ IsNamed l.packed.places.items l.first)

abbrev pub decreases-loop-q : goal.decreases-loop-q
decreases-loop-q l = unnamed_in l.packed.places.items
