-- Plans of robots that depart in turn are within the limits.
use Rattle.std.proofs.Common.{ℕ, ◌+◌, ◌<◌, ◌≤◌, List, [], ◌∷◌, ap, ◌∙◌, arith, length}
use Rattle.std.specs.Prelude.{All}
use Rattle.std.proofs.lemmas.List.Sums.{sum_by-le}
use Rattle.fleet_base.specs.declared.geometry.Cell.{Cell}
use Rattle.fleet_base.specs.declared.geometry.PlannedVisit.{PlannedVisit}
use Rattle.fleet_base.specs.Lists.{row_of}
use Rattle.fleet_base.specs.Grid.{OccupancyGrid, same_cell}
use Rattle.fleet_base.specs.Plan.{visits_of, visits_of_path, later_visits, IsWithinLimits, IsAccepted}
use Rattle.fleet_base.proofs.VisitLaws.{cond_case, length-visits}
use Rattle.fleet_base.proofs.GraphLaws.{route_is, length-map}
use Rattle.fleet_base.proofs.Rows.{get_or_within}
use Rattle.fleet_gen.specs.declared.road.Road.{Road}
use Rattle.fleet_gen.specs.Departures.{AreRoads, AreEarliest}
use Rattle.fleet_gen.proofs.Turns.{all_sound, short_path}

module _ (grid : OccupancyGrid) (roads : List Road) (ok : AreRoads grid roads) (plan : List (List Cell)) (turns : AreEarliest grid roads plan) (few : length plan ≤ length roads) where
  short : (i : ℕ) → i < length plan → length (row_of plan i) ≤ 1985
  short i h = let f = ok.few in let s = (short_path grid roads ok plan turns few i h).1 in omega (arith, h, f, few, s)

  paths : All (λ path. (1 ≤ length path) × (length path ≤ 4097)) plan
  paths i d h =
      let e = get_or_within plan i d [] h in
      let s = short i h in
      let l = (short_path grid roads ok plan turns few i h).0 in
      (omega (arith, ap length e, l), omega (arith, ap length e, s))

  routes : All (λ (route : List PlannedVisit). length route ≤ 1985) (visits_of plan)
  routes i d h =
      let there : i < length plan = omega (arith, h, length-map visits_of_path plan) in
      let e = get_or_within (visits_of plan) i d [] h ∙ route_is plan i in
      let s = short i there in
      omega (arith, ap length e, length-visits (row_of plan i), s)

  pub in_limits : 1 ≤ length plan → IsWithinLimits plan
  in_limits some =
      let f = ok.few in
      let n = length-map visits_of_path plan in
      let sum = sum_by-le length 1985 (visits_of plan) routes in
      record { robots = (some, omega (arith, f, few)); paths = paths; visits = omega (arith, f, few, n, sum) }

  pub turns_accepted : 1 ≤ length plan → IsAccepted grid plan
  turns_accepted some = record { sound = all_sound grid roads ok plan turns; limits = in_limits some }

  pub arrives : (i : ℕ) → i < length plan → length (row_of plan i) ≤ 1985
  arrives i h = short i h
