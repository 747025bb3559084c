-- Small fleets on which the definitions are tried.
use Rattle.std.specs.Prelude.{ℕ, List, [], ◌∷◌, true, false, Option, Some, None, slice_index_or}
use Rattle.fleet_base.specs.declared.geometry.Cell.{Cell}
use Rattle.fleet_base.specs.declared.geometry.Visit.{Visit}
use Rattle.fleet_base.specs.declared.geometry.PlannedVisit.{PlannedVisit}
use Rattle.fleet_base.specs.declared.order.Pair.{Pair}
use Rattle.fleet_base.specs.declared.order.Side.{Side}
use Rattle.fleet_base.specs.declared.order.Side.TheVariants.{Lower, Higher}
use Rattle.fleet_base.specs.Grid.{OccupancyGrid}
use Rattle.fleet_base.specs.Order.{Graph}
use Rattle.fleet_base.specs.State.{FleetState}

-- the cell of a row and a column
abbrev pub cell : ℕ → ℕ → Cell
cell r c = record { row = r; col = c }

-- a visit of a robot
abbrev pub visit : ℕ → ℕ → Visit
visit i k = record { robot = i; index = k }

-- a visit at a cell from a tick on
abbrev pub from_tick : ℕ → ℕ → ℕ → PlannedVisit
from_tick r c t = record { cell = cell r c; tick = t }

-- the crossing: a lane from west to east through the middle of one from north to south, all else blocked
abbrev pub crossing_map : OccupancyGrid
crossing_map = record {
  height = 3;
  width = 5;
  free = false ∷ false ∷ true ∷ false ∷ false ∷ true ∷ true ∷ true ∷ true ∷ true ∷ false ∷ false ∷ true ∷ false ∷ false ∷ [];
}

-- robot 0 goes east, and robot 1 waits for two ticks and goes south behind it
abbrev pub crossing_plan : List (List Cell)
crossing_plan = (cell 1 0 ∷ cell 1 1 ∷ cell 1 2 ∷ cell 1 3 ∷ cell 1 4 ∷ []) ∷ (cell 0 2 ∷ cell 0 2 ∷ cell 0 2 ∷ cell 1 2 ∷ cell 2 2 ∷ []) ∷ []

-- their visits: the waits of robot 1 are one visit
abbrev pub crossing_routes : List (List PlannedVisit)
crossing_routes = (from_tick 1 0 0 ∷ from_tick 1 1 1 ∷ from_tick 1 2 2 ∷ from_tick 1 3 3 ∷ from_tick 1 4 4 ∷ []) ∷ (from_tick 0 2 0 ∷ from_tick 1 2 3 ∷ from_tick 2 2 4 ∷ []) ∷ []

-- their one pair: they meet at the middle, and the plan lets robot 0 go first
abbrev pub crossing_graph : Graph
crossing_graph = record { lasts = 4 ∷ 2 ∷ []; pairs = record { lower = visit 0 2; higher = visit 1 1; first = Lower } ∷ [] }

-- two robots that exchange their cells
abbrev pub swapping : List (List Cell)
swapping = (cell 0 0 ∷ cell 0 1 ∷ []) ∷ (cell 0 1 ∷ cell 0 0 ∷ []) ∷ []

-- four robots that go round a square
abbrev pub rotating : List (List Cell)
rotating = (cell 0 0 ∷ cell 0 1 ∷ []) ∷ (cell 0 1 ∷ cell 1 1 ∷ []) ∷ (cell 1 1 ∷ cell 1 0 ∷ []) ∷ (cell 1 0 ∷ cell 0 0 ∷ []) ∷ []

-- a robot that stays at its last cell, which another enters later
abbrev pub sharing : List (List Cell)
sharing = (cell 0 2 ∷ cell 1 2 ∷ []) ∷ (cell 1 0 ∷ cell 1 1 ∷ cell 1 2 ∷ []) ∷ []

-- the corridor: two robots go through one lane in opposite directions, robot 1 after robot 0
abbrev pub corridor_plan : List (List Cell)
corridor_plan =
    (cell 0 0 ∷ cell 1 0 ∷ cell 1 1 ∷ cell 1 2 ∷ cell 1 3 ∷ cell 1 4 ∷ cell 1 5 ∷ cell 2 5 ∷ [])
    ∷ (cell 0 5 ∷ cell 0 5 ∷ cell 0 5 ∷ cell 0 5 ∷ cell 0 5 ∷ cell 0 5 ∷ cell 0 5 ∷ cell 1 5 ∷ cell 1 4 ∷ cell 1 3 ∷ cell 1 2 ∷ cell 1 1 ∷ cell 1 0 ∷ cell 2 0 ∷ []) ∷ []

-- a pair of the corridor
abbrev pub in_corridor : ℕ → ℕ → Pair
in_corridor k m = record { lower = visit 0 k; higher = visit 1 m; first = Lower }

-- its six pairs
abbrev pub corridor_graph : Graph
corridor_graph = record { lasts = 7 ∷ 7 ∷ []; pairs = in_corridor 1 6 ∷ in_corridor 2 5 ∷ in_corridor 3 4 ∷ in_corridor 4 3 ∷ in_corridor 5 2 ∷ in_corridor 6 1 ∷ [] }

-- pair 0 at Lower, pair 1 at Higher, and no other side
abbrev pub mixed : ℕ → Option Side
mixed q = slice_index_or (Some Lower ∷ Some Higher ∷ []) q None

-- the first state of the crossing with robot 0's first move delayed by 5 ticks
abbrev pub delayed : FleetState
delayed = record {
  arrivals = (0 ∷ []) ∷ (0 ∷ []) ∷ [];
  releases = (0 ∷ 0 ∷ []) ∷ (0 ∷ []) ∷ [];
  delays = (0 ∷ 5 ∷ 0 ∷ 0 ∷ 0 ∷ []) ∷ (0 ∷ 0 ∷ 0 ∷ []) ∷ [];
  sides = Lower ∷ [];
  clock = 0;
  count = 1;
  window = 1;
  lasts = 4 ∷ 2 ∷ [];
  plan_sides = Lower ∷ [];
}

-- no pair has a side
abbrev pub undecided : ℕ → Option Side
undecided q = None
