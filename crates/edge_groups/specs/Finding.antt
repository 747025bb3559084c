-- What the cursors have passed.
use Rattle.std.specs.Prelude.{ℕ, ◌≡◌, ◌+◌}
use Rattle.fleet_base.specs.Order.{Graph}
use Rattle.edge_groups.specs.declared.cursor.Cursor.{Cursor}
use Rattle.edge_groups.specs.declared.listing.Finder.{Finder}
use Rattle.edge_groups.specs.Ranks.{rank_in, IsBehind}

-- a cursor for this difference of ranks has not passed what a pair looks for
abbrev pub IsCursorFor : Graph → Cursor → ℕ → ℕ → ℕ → Type 0
IsCursorFor g c raise lead q = (c.raise ≡ raise) × (c.lead ≡ lead) × IsBehind g c.at raise (rank_in g q + lead)

-- no cursor has passed a mate of a pair
pub record IsReady (g : Graph) (f : Finder) (q : ℕ) : Type 0 where
  pub before_before : IsCursorFor g f.before_before 131073 0 q
  pub before_behind : IsCursorFor g f.before_behind 131071 0 q
  pub behind_before : IsCursorFor g f.behind_before 0 131071 q
  pub behind_behind : IsCursorFor g f.behind_behind 0 131073 q
