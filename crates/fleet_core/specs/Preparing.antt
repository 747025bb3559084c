-- When an entry is prepared, and when its pairs are refused.
use Rattle.std.specs.Prelude.{ℕ, ◌≡◌, ◌<◌, List, slice_get, Some, Result, Ok, Err, true, false, All}
use Rattle.fleet_base.specs.declared.order.PairId.{PairId}
use Rattle.fleet_base.specs.declared.report.Report.{Report}
use Rattle.fleet_base.specs.Order.{Graph, IsCyclic, order_of, turned}
use Rattle.fleet_base.specs.Open.{is_open}
use Rattle.fleet_base.specs.State.{FleetState}
use Rattle.fleet_base.specs.Rules.{IsFleetState}
use Rattle.fleet_core.specs.declared.entry.Entry.{Entry}
use Rattle.fleet_core.specs.declared.entry.PrepareError.{PrepareError}
use Rattle.fleet_core.specs.declared.entry.PrepareError.TheVariants.{ChoiceRefused, Memory}
use Rattle.fleet_core.specs.declared.entry.ChoiceWhy.{ChoiceWhy}
use Rattle.fleet_core.specs.declared.entry.ChoiceWhy.TheVariants.{Closed, Cyclic}
use Rattle.fleet_core.specs.Step.{Step, heard_of}

-- the pair is the first of the list that is not open
pub record IsFirstClosed (g : Graph) (x : FleetState) (switched : List PairId) (q : PairId) : Type 0 where
  pub place : ℕ
  pub here : slice_get switched place ≡ Some q
  pub closed : is_open g x q.0 ≡ false
  pub above : (j : ℕ) (before : PairId) → j < place → slice_get switched j ≡ Some before → is_open g x before.0 ≡ true

-- why a choice is refused: a pair is closed, the first such; or all are open and the new order is cyclic, with the first pair
abbrev pub ChoiceIsRefused : Graph → FleetState → Report → List PairId → PairId → ChoiceWhy → Type 0
ChoiceIsRefused g x report switched q Closed = IsFirstClosed g (heard_of x report) switched q
ChoiceIsRefused g x report switched q Cyclic = All (λ p. is_open g (heard_of x report) p.0 ≡ true) switched × (slice_get switched 0 ≡ Some q) × IsCyclic g (order_of (turned x.sides switched))

-- so it is with each refusal of an entry
abbrev pub PrepareIs : Graph → FleetState → Report → List PairId → Result Entry PrepareError → Type 0
PrepareIs g x report switched (Ok entry) = Unit {0}
PrepareIs g x report switched (Err (ChoiceRefused q why)) = ChoiceIsRefused g x report switched q why
PrepareIs g x report switched (Err Memory) = Unit {0}

-- the entry makes a step from a state that keeps the rules
abbrev pub IsPrepared : FleetState → Entry → Type 0
IsPrepared x entry = (g : Graph) × IsFleetState g x × (x' : FleetState) × Step g x entry.report entry.switched entry.releases x'
