-- The sides that are decided on the way to a node, kept as a list.
use Rattle.std.specs.Prelude.{ℕ, ◌≡◌, List, length, slice_index_or, Option, None}
use Rattle.fleet_base.specs.declared.order.Side.{Side}
use Rattle.fleet_base.specs.Order.{Graph}
use Rattle.fleet_base.specs.State.{FleetState}
use Rattle.fleet_base.specs.Schedule.{decision_order}

-- the side that is decided for a pair
abbrev pub decided : List (Option Side) → ℕ → Option Side
decided sides q = slice_index_or sides q None

-- there is a place for each pair
abbrev pub HasSides : Graph → List (Option Side) → Type 0
HasSides g sides = length sides ≡ length g.pairs

-- the order of the closed pairs and the decided ones
abbrev pub order_by : Graph → FleetState → List (Option Side) → ℕ → Option Side
order_by g x sides = decision_order g x (decided sides)
