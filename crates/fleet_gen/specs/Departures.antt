-- Robots that depart in turn, each as early as it may beside those before it.
use Rattle.std.specs.Prelude.{ℕ, ◌≡◌, ◌≢◌, ◌+◌, ◌<◌, ◌≤◌, List, [], ◌∷◌, ◌++◌, length, take, slice_index_or, IsTrue}
use Rattle.fleet_base.specs.declared.geometry.Cell.{Cell}
use Rattle.fleet_base.specs.Lists.{row_of}
use Rattle.fleet_base.specs.Grid.{OccupancyGrid, is_free}
use Rattle.fleet_base.specs.Plan.{IsSound}
use Rattle.fleet_gen.specs.declared.road.Road.{Road}
use Rattle.fleet_gen.specs.Roads.{IsRoad, cell_after, moves_of, path_of}

-- beside paths that are fixed, waiting so long is sound, and no shorter waiting is
pub record IsLeastWait (grid : OccupancyGrid) (fixed : List (List Cell)) (road : Road) (wait : ℕ) : Type 0 where
  pub sound : IsSound grid (fixed ++ path_of road wait ∷ [])
  pub least : (other : ℕ) → IsSound grid (fixed ++ path_of road other ∷ []) → wait ≤ other

-- stands where there are too few roads
abbrev pub no_road : Road
no_road = record { row = 0; column = 0; goal = 0 }

-- the road of a robot
abbrev pub road_at : List Road → ℕ → Road
road_at roads i = slice_index_or roads i no_road

-- a path of a plan is along the road of its robot, and begins with the least waiting beside those before it
pub record IsEarliest (grid : OccupancyGrid) (roads : List Road) (plan : List (List Cell)) (i : ℕ) : Type 0 where
  pub wait : ℕ
  pub path : row_of plan i ≡ path_of (road_at roads i) wait
  pub least : IsLeastWait grid (take i plan) (road_at roads i) wait

-- each path is, robot by robot
abbrev pub AreEarliest : OccupancyGrid → List Road → List (List Cell) → Type 0
AreEarliest grid roads plan = (i : ℕ) → i < length plan → IsEarliest grid roads plan i

-- a fixed path is along a road that begins and ends in other rows, and arrives by a tick
pub record IsBeside (road : Road) (limit : ℕ) (path : List Cell) : Type 0 where
  pub other : Road
  pub wait : ℕ
  pub is : path ≡ path_of other wait
  pub lies : IsRoad other
  pub row : other.row ≢ road.row
  pub goal : other.goal ≢ road.goal
  pub in_time : wait + moves_of other ≤ limit

-- each fixed path is
abbrev pub AreBeside : Road → ℕ → List (List Cell) → Type 0
AreBeside road limit fixed = (i : ℕ) → i < length fixed → IsBeside road limit (row_of fixed i)

-- each cell of a road is free
abbrev pub IsFreeRoad : OccupancyGrid → Road → Type 0
IsFreeRoad grid road = (n : ℕ) → IsTrue (is_free grid (cell_after road n))

-- roads on the map whose cells are free, each of which begins and ends in a row of its own
pub record AreRoads (grid : OccupancyGrid) (roads : List Road) : Type 0 where
  pub few : length roads ≤ 32
  pub lie : (i : ℕ) → i < length roads → IsRoad (road_at roads i)
  pub free : (i : ℕ) → i < length roads → IsFreeRoad grid (road_at roads i)
  pub rows : (i j : ℕ) → i < j → j < length roads → (road_at roads i).row ≢ (road_at roads j).row
  pub goals : (i j : ℕ) → i < j → j < length roads → (road_at roads i).goal ≢ (road_at roads j).goal
