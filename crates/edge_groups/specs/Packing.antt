-- How far the packing of lists has come.
use Rattle.std.specs.Prelude.{ℕ, ◌≡◌, ◌+◌, ◌*◌, ◌/◌, ◌%◌, ◌<◌, ◌≤◌, List, length, slice_index}
use Rattle.fleet_base.specs.declared.order.PairId.{PairId}
use Rattle.fleet_base.specs.Lists.{row_of}
use Rattle.fleet_base.specs.Limits.{pair_limit}
use Rattle.edge_groups.specs.declared.lists.MateLists.{MateLists}
use Rattle.edge_groups.specs.Kept.{mates_at}
use Rattle.edge_groups.specs.Naming.{IsNamed, unnamed_in}

-- a place lies within the list and names this row
abbrev pub IsPlaceOf : List PairId → ℕ → List PairId → Type 0
IsPlaceOf mates place row = (place / 8 + place % 8 ≤ length mates) × (mates_at mates place ≡ row)

-- a place that is given names the row of its pair, the first so many are given, and there is room for the rest
pub record IsPacking (rows : List (List PairId)) (lists : MateLists) (upto : ℕ) : Type 0 where
  pub count : length lists.places.items ≡ length rows
  pub few : length lists.places.items ≤ pair_limit
  pub room : length lists.mates.items + 8 * unnamed_in lists.places.items ≤ 8 * length lists.places.items
  pub placed : (q : ℕ) → IsNamed lists.places.items q → IsPlaceOf lists.mates.items (slice_index lists.places.items q) (row_of rows q)
  pub below : (q : ℕ) → q < upto → IsNamed lists.places.items q
