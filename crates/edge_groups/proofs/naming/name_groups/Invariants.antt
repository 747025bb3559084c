use Rattle.std.proofs.Common.{◌≡◌, [], length}
use Rattle.edge_groups.specs.Kept.{rows_in}
use Rattle.edge_groups.specs.Naming.{IsNaming}
use Rattle.edge_groups.proofs.naming.name_groups.Given as goal

abbrev pub invariant-loop-q : goal.invariant-loop-q
invariant-loop-q l = IsNaming (rows_in l.lists) l.names.items [] l.q × (l.waiting.items ≡ []) × (length l.names.items ≡ l.count)
