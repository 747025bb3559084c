-- How pairs of a state are switched.
use Rattle.std.specs.Prelude.{ℕ, ◌≡◌, List, slice_get, Some, Option, Result, Ok, Err, true, All}
use Rattle.fleet_base.specs.declared.geometry.Visit.{Visit}
use Rattle.fleet_base.specs.declared.order.PairId.{PairId}
use Rattle.fleet_base.specs.declared.order.Side.{Side}
use Rattle.fleet_base.specs.Order.{Graph, IsSorted, IsCyclic, IsSoundOrder, order_of, turned}
use Rattle.fleet_base.specs.Open.{is_open}
use Rattle.fleet_base.specs.State.{FleetState}
use Rattle.plan_graph.specs.declared.ranking.Ranked.{Ranked}
use Rattle.plan_graph.specs.declared.ranking.Ranked.TheVariants.{Order, Cycle}
use Rattle.fleet_core.specs.declared.entry.PrepareError.{PrepareError}
use Rattle.fleet_core.specs.declared.entry.PrepareError.TheVariants.{ChoiceRefused, Memory}
use Rattle.fleet_core.specs.declared.entry.ChoiceWhy.{ChoiceWhy}
use Rattle.fleet_core.specs.declared.entry.ChoiceWhy.TheVariants.{Closed, Cyclic}
use Rattle.fleet_core.specs.Preparing.{IsFirstClosed}

-- whether an order is cyclic: all visits are listed so that each edge goes forward, or no list is
abbrev pub OrderIs : Graph → (ℕ → Option Side) → Ranked → Type 0
OrderIs g order Order = (list : List Visit) × IsSorted g order list
OrderIs g order Cycle = IsCyclic g order

-- the pairs are open, and the order with them turned is sound
pub record AreSwitchable (g : Graph) (x : FleetState) (switched : List PairId) : Type 0 where
  pub are_open : All (λ q. is_open g x q.0 ≡ true) switched
  pub sound : IsSoundOrder g (order_of (turned x.sides switched))

-- why they are not switched
abbrev pub SwitchIsRefused : Graph → FleetState → List PairId → PairId → ChoiceWhy → Type 0
SwitchIsRefused g x switched q Closed = IsFirstClosed g x switched q
SwitchIsRefused g x switched q Cyclic = All (λ p. is_open g x p.0 ≡ true) switched × (slice_get switched 0 ≡ Some q) × IsCyclic g (order_of (turned x.sides switched))

-- they are turned, or refused
abbrev pub SwitchIs : Graph → FleetState → FleetState → List PairId → Result (Unit {0}) PrepareError → Type 0
SwitchIs g x x' switched (Ok done) = (x' ≡ record x { sides = turned x.sides switched }) × AreSwitchable g x switched
SwitchIs g x x' switched (Err (ChoiceRefused q why)) = SwitchIsRefused g x switched q why
SwitchIs g x x' switched (Err Memory) = Unit {0}
