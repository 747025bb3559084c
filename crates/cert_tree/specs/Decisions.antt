-- Decisions on the way to a node, and the order that they give.
use Rattle.std.specs.Prelude.{ℕ, ◌≡◌, ◌==◌, List, [], ◌∷◌, Bool, true, Option, Some, None, if◌then◌else◌}
use Rattle.fleet_base.specs.declared.order.Side.{Side}
use Rattle.fleet_base.specs.Order.{Graph}
use Rattle.fleet_base.specs.State.{FleetState}
use Rattle.fleet_base.specs.Open.{is_open}
use Rattle.fleet_base.specs.Schedule.{decision_order}

-- a pair gets a side: as one of two branches, or by force
pub record Decision : Type 0 where
  pub pair : ℕ
  pub side : Side
  pub branched : Bool

-- the side that the decisions give a pair
abbrev pub side_on : List Decision → ℕ → Option Side
side_on [] q = None
side_on (d ∷ ds) q = if d.pair == q then Some d.side else side_on ds q

-- the order of the closed pairs and the decisions
abbrev pub order_on : Graph → FleetState → List Decision → ℕ → Option Side
order_on g x way = decision_order g x (side_on way)

-- the pair is open, and has no decision yet
abbrev pub IsFree : Graph → FleetState → List Decision → ℕ → Type 0
IsFree g x way q = (is_open g x q ≡ true) × (side_on way q ≡ None)
