-- What a report comes to.
use Rattle.std.specs.Prelude.{ℕ, ◌≡◌, List, [], ◌∷◌, Option, Some, None}
use Rattle.fleet_base.specs.declared.order.PairId.{PairId}
use Rattle.fleet_base.specs.declared.report.Report.{Report}
use Rattle.fleet_base.specs.Order.{Graph}
use Rattle.fleet_base.specs.State.{FleetState}
use Rattle.fleet_core.specs.Step.{Step}
use Rattle.fleet_core.specs.Preparing.{ChoiceIsRefused}
use Rattle.plan_scenes.specs.declared.steps.Outcome.{Outcome}
use Rattle.plan_scenes.specs.declared.steps.Outcome.TheVariants.{Released, Refused}

-- the pair that is named, if one is
abbrev pub named : Option PairId → List PairId
named None = []
named (Some q) = q ∷ []

-- the report makes the step to x' with these pairs switched; or they are refused for this reason, and nothing changes
abbrev pub ComesTo : Graph → FleetState → Report → List PairId → FleetState → Outcome → Type 0
ComesTo g x report switched x' (Released visits) = Step g x report switched visits.items x'
ComesTo g x report switched x' (Refused q why) = (x' ≡ x) × ChoiceIsRefused g x report switched q why
