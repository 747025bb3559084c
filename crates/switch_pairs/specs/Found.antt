-- The pairs of one lower robot.
use Rattle.std.specs.Prelude.{ℕ, ◌+◌, List, length, flat_map, nat_lt, if◌then◌else◌}
use Rattle.fleet_base.specs.declared.geometry.PlannedVisit.{PlannedVisit}
use Rattle.fleet_base.specs.declared.order.Pair.{Pair}
use Rattle.fleet_base.specs.declared.order.Side.TheVariants.{Lower, Higher}
use Rattle.fleet_base.specs.Lists.{range, row_of}
use Rattle.fleet_base.specs.Pairs.{pairs_with, pairs_between}
use Rattle.switch_pairs.specs.declared.stops.Stop.{Stop}

-- two visits as a pair: the one with the earlier plan tick is first
abbrev pub pair_of_stops : Stop → Stop → Pair
pair_of_stops s t = record { lower = s.visit; higher = t.visit; first = if nat_lt s.tick t.tick then Lower else Higher }

-- the pairs of a visit with the visits of higher robots, by robot
abbrev pub pairs_of_visit : List (List PlannedVisit) → ℕ → ℕ → List Pair
pairs_of_visit routes i k = flat_map (pairs_with routes (record { robot = i; index = k })) (range (i + 1) (length routes))

-- the pairs of a robot with higher robots, by its visit, then by the higher robot
abbrev pub pairs_by_visit : List (List PlannedVisit) → ℕ → List Pair
pairs_by_visit routes i = flat_map (pairs_of_visit routes i) (range 0 (length (row_of routes i)))

-- the same by the higher robot, then by the visits, as the pairs are numbered
abbrev pub pairs_of_lower : List (List PlannedVisit) → ℕ → List Pair
pairs_of_lower routes i = flat_map (pairs_between routes i) (range (i + 1) (length routes))
