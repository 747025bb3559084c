-- What texts of maps and plans mean.
use Rattle.std.specs.Prelude.{ℕ, ◌≡◌, List}
use Rattle.fleet_base.specs.declared.geometry.Cell.{Cell}
use Rattle.fleet_base.specs.declared.geometry.PlannedVisit.{PlannedVisit}
use Rattle.fleet_base.specs.Grid.{OccupancyGrid}
use Rattle.fleet_base.specs.Plan.{IsAccepted, visits_of}
use Rattle.fleet_base.specs.Order.{Graph, graph_of}
use Rattle.map_text.specs.MapText.{IsMapText}
use Rattle.plan_text.specs.PlanText.{IsPlanText}

-- the first text is a map, the second a plan that is accepted on it, with these routes
pub record IsPlanOf (map text : List ℕ) (routes : List (List PlannedVisit)) : Type 0 where
  pub grid : OccupancyGrid
  pub plan : List (List Cell)
  pub map_is : IsMapText map grid
  pub text_is : IsPlanText text plan
  pub accepted : IsAccepted grid plan
  pub visits : routes ≡ visits_of plan

-- and the graph is that of the plan
abbrev pub IsGraphOf : List ℕ → List ℕ → Graph → Type 0
IsGraphOf map text g = (routes : List (List PlannedVisit)) × IsPlanOf map text routes × (g ≡ graph_of routes)
