-- A table as it is kept: the least pairs' numbers, and the mates of all pairs, one after another.
use Rattle.std.specs.Prelude.{ℕ, ◌+◌, ◌*◌, ◌/◌, ◌%◌, ◌<◌, ◌≤◌, List, map, length, slice_index, slice_range}
use Rattle.fleet_base.specs.declared.order.PairId.{PairId}
use Rattle.fleet_base.specs.Limits.{pair_limit}
use Rattle.edge_groups.specs.declared.lists.MateLists.{MateLists}
use Rattle.edge_groups.specs.declared.table.GroupTable.TheInside.{Inside}
use Rattle.edge_groups.specs.Names.{AreNames}

-- the mates that a place names: it is eight times where they begin, and how many they are
abbrev pub mates_at : List PairId → ℕ → List PairId
mates_at mates place = slice_range mates (place / 8) (place / 8 + place % 8)

-- the mates of each pair
abbrev pub rows_in : MateLists → List (List PairId)
rows_in lists = map (mates_at lists.mates.items) lists.places.items

-- each place lies within the list
abbrev pub AreWithin : List ℕ → ℕ → Type 0
AreWithin places count = (k : ℕ) → k < length places → slice_index places k / 8 + slice_index places k % 8 ≤ count

-- the lists are kept for 1,048,576 pairs at most, with eight mates each at most
pub record AreKept (lists : MateLists) : Type 0 where
  pub within : AreWithin lists.places.items (length lists.mates.items)
  pub short : length lists.mates.items ≤ 8 * length lists.places.items
  pub few : length lists.places.items ≤ pair_limit

-- the mates are kept, and the least number of each group stands with each of its pairs
pub record IsGroupTable (t : Inside) : Type 0 where
  pub kept : AreKept t.lists
  pub names : AreNames (rows_in t.lists) t.names.items
