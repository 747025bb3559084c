-- Roads: the cells from a robot's first cell to its last one.
use Rattle.std.specs.Prelude.{ℕ, ◌+◌, ◌-◌, ◌≤◌, ◌<◌, min, max, map, List, Bool, ◌&&◌, ◌||◌, ◌==◌, nat_le}
use Rattle.std.specs.List.{range_with_len}
use Rattle.fleet_base.specs.declared.geometry.Cell.{Cell}
use Rattle.fleet_gen.specs.declared.road.Road.{Road}

-- a road on a map of 32 rows and 32 columns
pub record IsRoad (r : Road) : Type 0 where
  pub row : r.row < 32
  pub column : (1 ≤ r.column) × (r.column ≤ 30)
  pub goal : r.goal < 32

-- as many steps from one number toward another, and not beyond it
abbrev pub toward : ℕ → ℕ → ℕ → ℕ
toward a b n = max (a - n) (min b (a + n))

-- how many rows a road crosses
abbrev pub rows_of : Road → ℕ
rows_of r = (r.row - r.goal) + (r.goal - r.row)

-- how many moves it has, 31 of them along rows
abbrev pub moves_of : Road → ℕ
moves_of r = 31 + rows_of r

-- its cell after so many moves: to the column, then to the goal's row, then to column 31, where it stays
abbrev pub cell_after : Road → ℕ → Cell
cell_after r n = record { row = toward r.row r.goal (n - r.column); col = toward (min n r.column) 31 (n - (r.column + rows_of r)) }

-- whether it goes through a cell: along its first row up to the column, along the column, along the goal's row from the column to the last one
abbrev pub is_on_road : Road → Cell → Bool
is_on_road r c = (c.row == r.row && nat_le c.col r.column) || (c.col == r.column && (nat_le (min r.row r.goal) c.row && nat_le c.row (max r.row r.goal))) || (c.row == r.goal && (nat_le r.column c.col && nat_le c.col 31))

-- the cells tick by tick of a robot that waits so long at the first one, goes a cell a tick, and is listed up to its arrival
unfoldable pub path_of : Road → ℕ → List Cell
path_of r wait = map (λ t. cell_after r (t - wait)) (range_with_len 0 (wait + moves_of r + 1))
