-- Who is in which cell at a tick.
use Rattle.std.specs.Prelude.{ℕ, ◌≡◌, ◌<◌, ◌≤◌, List, Option, Some, length}
use Rattle.std.specs.BTreeMap.{BTreeMap, get}
use Rattle.fleet_base.specs.declared.geometry.Cell.{Cell}
use Rattle.fleet_base.specs.Plan.{cell_at}
use Rattle.fleet_base.specs.Grid.{cell_order}

-- the robot that is kept for a cell
abbrev pub occupant : BTreeMap Cell ℕ → Cell → Option ℕ
occupant occupants cell = get cell_order occupants cell

-- of the robots from one number on: for each cell in which some are at the tick, the least of them, and for no other cell
pub record HasOccupants (occupants : BTreeMap Cell ℕ) (plan : List (List Cell)) (t from : ℕ) : Type 0 where
  pub kept : (cell : Cell) (i : ℕ) → occupant occupants cell ≡ Some i → (from ≤ i) × (i < length plan) × (cell_at plan i t ≡ cell)
  pub least : (i : ℕ) → from ≤ i → i < length plan → (least : ℕ) × (occupant occupants (cell_at plan i t) ≡ Some least) × (least ≤ i)

-- two robots from one number on are in one cell at the tick
pub record SharesFrom (plan : List (List Cell)) (t from i j : ℕ) : Type 0 where
  pub low : from ≤ i
  pub below : i < j
  pub there : j < length plan
  pub same : cell_at plan i t ≡ cell_at plan j t
