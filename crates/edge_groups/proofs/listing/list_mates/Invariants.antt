use Rattle.std.proofs.Common.{ℕ, ◌≡◌, ◌<◌, length}
use Rattle.fleet_base.specs.Lists.{row_of}
use Rattle.edge_groups.specs.Kept.{rows_in, AreKept}
use Rattle.edge_groups.specs.Finding.{IsReady}
use Rattle.edge_groups.specs.Mates.{AreMatesOf}
use Rattle.edge_groups.proofs.listing.list_mates.Given as goal

abbrev pub invariant-loop-q : goal.invariant-loop-q
invariant-loop-q l =
    AreKept l.lists × (length l.lists.places.items ≡ l.q) × (l.q < length l.graph.pairs → IsReady l.graph l.finder l.q) × ((k : ℕ) → k < l.q → AreMatesOf l.graph k (row_of (rows_in l.lists) k))
