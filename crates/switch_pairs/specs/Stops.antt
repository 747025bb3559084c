-- The visits of a plan, by their cells.
use Rattle.std.specs.Prelude.{ℕ, ◌≡◌, ◌≤◌, List, length, map, flat_map, filter, Bool, nat_lt}
use Rattle.std.specs.Ordering.{nat_cmp, ordering_then}
use Rattle.std.specs.declared.cmp.Ordering.{Ordering}
use Rattle.std.specs.List.Sorted.{IsSortedByKey, IsNonDecreasingBy}
use Rattle.fleet_base.specs.declared.geometry.Cell.{Cell}
use Rattle.fleet_base.specs.declared.geometry.Visit.{Visit}
use Rattle.fleet_base.specs.declared.geometry.PlannedVisit.{PlannedVisit}
use Rattle.fleet_base.specs.Lists.{range, row_of}
use Rattle.fleet_base.specs.Grid.{same_cell, cell_order}
use Rattle.fleet_base.specs.Plan.{cell_of, plan_tick_of}
use Rattle.fleet_base.specs.Limits.{visit_limit}
use Rattle.switch_pairs.specs.declared.stops.Stop.{Stop}

-- a visit with its cell and its plan tick
abbrev pub stop_of : List (List PlannedVisit) → Visit → Stop
stop_of routes v = record { visit = v; cell = cell_of routes v; tick = plan_tick_of routes v }

-- the visits of a robot
abbrev pub stops_of : List (List PlannedVisit) → ℕ → List Stop
stops_of routes i = map (λ k. stop_of routes (record { robot = i; index = k })) (range 0 (length (row_of routes i)))

-- all visits, by robot, then by number
abbrev pub all_stops : List (List PlannedVisit) → List Stop
all_stops routes = flat_map (stops_of routes) (range 0 (length routes))

-- whether a visit is at a cell
abbrev pub is_at : Cell → Stop → Bool
is_at c s = same_cell c s.cell

-- whether a visit is of a robot above this one
abbrev pub is_above : ℕ → Stop → Bool
is_above i s = nat_lt i s.visit.robot

-- the visits of higher robots at the cell of a visit
abbrev pub higher_stops : List Stop → Stop → List Stop
higher_stops stops s = filter (is_above s.visit.robot) (filter (is_at s.cell) stops)

-- visits by their cells, and those at one cell by their robots
pub record AreByCell (stops : List Stop) : Type 0 where
  pub sorted : IsSortedByKey (λ s. s.cell) cell_order stops
  pub robots : (c : Cell) → IsNonDecreasingBy (λ s. s.visit.robot) (filter (is_at c) stops)

-- the visits of the routes by their cells, those at one cell in the order of the routes
pub record AreStops (routes : List (List PlannedVisit)) (stops : List Stop) : Type 0 where
  pub by_cell : AreByCell stops
  pub few : length stops ≤ visit_limit
  pub each : (c : Cell) → filter (is_at c) stops ≡ filter (is_at c) (all_stops routes)
