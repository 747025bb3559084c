use Rattle.std.proofs.Common.{◌+◌, length}
use Rattle.edge_groups.specs.Kept.{rows_in}
use Rattle.edge_groups.specs.Naming.{IsNaming, AreNamed, unnamed_in}
use Rattle.edge_groups.proofs.naming.name_group.Given as goal

abbrev pub invariant-loop-q : goal.invariant-loop-q
invariant-loop-q l = IsNaming (rows_in l.lists) l.names l.waiting.items (l.least + 1) × AreNamed l.names l.waiting.items l.least

abbrev pub decreases-loop-q : goal.decreases-loop-q
decreases-loop-q l = length l.waiting.items + unnamed_in l.names
