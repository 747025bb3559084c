-- Tables that have a number for each cell.
use Rattle.std.specs.Prelude.{ℕ, ◌≡◌, ◌<◌, List, length, slice_index_or, IsTrue, Contains}
use Rattle.fleet_base.specs.declared.geometry.Cell.{Cell}
use Rattle.fleet_base.specs.Lists.{row_of}
use Rattle.fleet_base.specs.Grid.{OccupancyGrid, is_free}
use Rattle.fleet_base.specs.Plan.{cell_at, no_cell}
use Rattle.path_planner.specs.declared.tables.Tables.{Tables}

-- the number of a cell, and 0 where the table has no place for it
abbrev pub value_at : List (List ℕ) → Cell → ℕ
value_at table c = slice_index_or (row_of table c.row) c.col 0

-- the table has a place for the cell
abbrev pub HasPlace : List (List ℕ) → Cell → Type 0
HasPlace table c = (c.row < length table) × (c.col < length (row_of table c.row))

-- two tables have places for the same cells
pub record SameSides (old new : List (List ℕ)) : Type 0 where
  pub rows : length new ≡ length old
  pub cols : (r : ℕ) → length (row_of new r) ≡ length (row_of old r)

-- the table has a place for each free cell
abbrev pub Covers : OccupancyGrid → List (List ℕ) → Type 0
Covers grid table = (c : Cell) → IsTrue (is_free grid c) → HasPlace table c

-- for the cell of each fixed robot at the tick the table has that robot; for other cells any number
abbrev pub TellsRobots : List (List Cell) → ℕ → List (List ℕ) → Type 0
TellsRobots fixed t table = (j : ℕ) → j < length fixed → value_at table (cell_at fixed j t) ≡ j

-- for each of these cells the table has a place at which it stands; for other cells any number
abbrev pub TellsPlaces : List Cell → List (List ℕ) → Type 0
TellsPlaces cells table = (c : Cell) → Contains cells c → (value_at table c < length cells) × (slice_index_or cells (value_at table c) no_cell ≡ c)

-- both tables have places for each free cell
pub record CoverGrid (grid : OccupancyGrid) (tables : Tables) : Type 0 where
  pub traffic : Covers grid tables.traffic
  pub places : Covers grid tables.places
