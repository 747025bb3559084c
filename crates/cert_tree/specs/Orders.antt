-- Words on orders that trees and schedules share.
use Rattle.std.specs.Prelude.{ℕ, ◌≡◌, false, Option}
use Rattle.fleet_base.specs.declared.geometry.Visit.{Visit}
use Rattle.fleet_base.specs.declared.order.Side.{Side}
use Rattle.fleet_base.specs.Order.{Graph, HasEdge, order_of}
use Rattle.fleet_base.specs.State.{FleetState}
use Rattle.fleet_base.specs.Open.{is_open}
use Rattle.fleet_base.specs.Schedule.{ObeysEdge}

-- a schedule obeys the edge of every pair that has a side
abbrev pub ObeysPairs : Graph → FleetState → (ℕ → Option Side) → (Visit → ℕ) → Type 0
ObeysPairs g x order s = (q : ℕ) (u v : Visit) → HasEdge g order q u v → ObeysEdge x s u v
