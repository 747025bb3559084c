use Rattle.std.proofs.Common.{◌≡◌, ◌+◌, ◌∷◌, length}
use Rattle.edge_groups.specs.Kept.{rows_in}
use Rattle.edge_groups.specs.Naming.{IsNaming, AreNamed, AreFirstNamed, unnamed_in}
use Rattle.edge_groups.proofs.naming.name_mates.Given as goal

abbrev pub invariant-loop-mate : goal.invariant-loop-mate
invariant-loop-mate l =
    IsNaming (rows_in l.lists) l.names (l.q ∷ l.waiting.items) (l.name + 1) × AreNamed l.names (l.q ∷ l.waiting.items) l.name × AreFirstNamed l.names l.mate-items l.mate-index l.name
    × (length l.waiting.items + unnamed_in l.names ≡ length l.initial.waiting.items + unnamed_in l.initial.names)
