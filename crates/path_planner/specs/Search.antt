-- The search for one robot: what it is given, its layers, and what it answers.
use Rattle.std.specs.Prelude.{ℕ, ◌≡◌, ◌≢◌, ◌↔◌, ◌+◌, ◌-◌, ◌<◌, ◌≤◌, suc, List, ◌∷◌, length, Option, MatchOption, Vec, Contains, IsTrue, ◌⊎◌}
use Rattle.std.specs.declared.alloc.Global.{Global}
use Rattle.fleet_base.specs.declared.geometry.Cell.{Cell}
use Rattle.fleet_base.specs.declared.lists.Items.{Items}
use Rattle.fleet_base.specs.Lists.{row_of}
use Rattle.fleet_base.specs.Grid.{OccupancyGrid, is_free, distance}
use Rattle.map_text.specs.declared.scenario.Task.{Task}
use Rattle.path_planner.specs.declared.forward.Aim.{Aim}
use Rattle.path_planner.specs.Planning.{IsCandidate, IsChosen, IsBefore}
use Rattle.plan_steps.specs.Steps.{path_at, IsClear, MayStep}
use Rattle.path_planner.specs.Layers.{IsClearFrom, IsReached, LeadsTo, IsArrival, IsFirstArrival, IsLeastWay}

-- each path has a cell and arrives by the horizon
abbrev pub AreInTime : ℕ → List (List Cell) → Type 0
AreInTime horizon fixed = (i : ℕ) → i < length fixed → (1 ≤ length (row_of fixed i)) × (length (row_of fixed i) ≤ horizon + 1)

-- what a search for one robot answers: its best path, or that it has none
abbrev pub IsBestPath : OccupancyGrid → ℕ → List (List Cell) → Task → Option (Vec Cell Global) → Type 0
IsBestPath grid horizon fixed task answer = MatchOption answer ((path : List Cell) → ¬ IsCandidate grid horizon fixed task path) (λ path. IsChosen grid horizon fixed task path.items)

-- the tick from which on no fixed robot is in the cell, if there is one
abbrev pub IsClearTick : List (List Cell) → Cell → Option ℕ → Type 0
IsClearTick fixed c tick = MatchOption tick ((t : ℕ) → ¬ IsClearFrom fixed t c) (λ from. (t : ℕ) → IsClearFrom fixed t c ↔ (from ≤ t))

-- the tick from which on a path is not in the cell, if there is one
abbrev pub IsLeaveTick : List Cell → Cell → Option ℕ → Type 0
IsLeaveTick path c tick = MatchOption tick ((t : ℕ) → ¬ ((s : ℕ) → t ≤ s → path_at path s ≢ c)) (λ from. (t : ℕ) → ((s : ℕ) → t ≤ s → path_at path s ≢ c) ↔ (from ≤ t))

-- cells by ticks, up to the tick of the last layer: each is reached at its tick, and none is missing from which the goal is
-- reached at the last tick
pub record HasWays (grid : OccupancyGrid) (fixed : List (List Cell)) (task : Task) (layers : List (List Cell)) : Type 0 where
  pub some : 1 ≤ length layers
  pub reached : (t : ℕ) (c : Cell) → t < length layers → Contains (row_of layers t) c → IsReached grid fixed task.start t c
  pub whole : (t : ℕ) (c : Cell) → t < length layers → IsReached grid fixed task.start t c → LeadsTo grid fixed task.goal (length layers - 1 - t) t c → Contains (row_of layers t) c

-- and from each of them it is
pub record AreWays (grid : OccupancyGrid) (fixed : List (List Cell)) (task : Task) (layers : List (List Cell)) : Type 0 where
  pub ways : HasWays grid fixed task layers
  pub lead : (t : ℕ) (c : Cell) → t < length layers → Contains (row_of layers t) c → LeadsTo grid fixed task.goal (length layers - 1 - t) t c

-- the layers end at the first tick at which the robot may arrive
pub record EndAtArrival (grid : OccupancyGrid) (fixed : List (List Cell)) (task : Task) (horizon : ℕ) (layers : List (List Cell)) : Type 0 where
  pub ways : HasWays grid fixed task layers
  pub in_time : length layers ≤ horizon + 1
  pub arrival : IsFirstArrival grid fixed task.start task.goal (length layers - 1)

-- the layers up to the arrival, or none where there is none by the horizon
abbrev pub AreLayers : OccupancyGrid → List (List Cell) → Task → ℕ → Option (Items (Items Cell)) → Type 0
AreLayers grid fixed task horizon answer = MatchOption answer ((t : ℕ) → t ≤ horizon → ¬ IsArrival grid fixed task.start task.goal t) (EndAtArrival grid fixed task horizon)

-- the path is the least way through so many layers
pub record IsLeastPath (grid : OccupancyGrid) (fixed : List (List Cell)) (task : Task) (layers : ℕ) (path : List Cell) : Type 0 where
  pub way : List Cell
  pub cells : path ≡ task.start ∷ way
  pub ticks : suc (length way) ≡ layers
  pub least : IsLeastWay grid fixed task.goal 0 task.start way

-- the robot may stand in each of these cells at the tick
abbrev pub AreStood : OccupancyGrid → List (List Cell) → ℕ → List Cell → Type 0
AreStood grid fixed t layer = (c : Cell) → Contains layer c → IsTrue (is_free grid c) × IsClear fixed t c

-- the cells that are reached at tick 0
pub record IsFirstLayer (grid : OccupancyGrid) (fixed : List (List Cell)) (start : Cell) (layer : List Cell) : Type 0 where
  pub reached : (c : Cell) → Contains layer c → IsReached grid fixed start 0 c
  pub whole : (c : Cell) → IsReached grid fixed start 0 c → Contains layer c

-- from the cell at the tick the goal is near enough to be reached in time, were nothing in the way
abbrev pub IsInReach : Aim → ℕ → Cell → Type 0
IsInReach aim t c = t + distance c aim.goal ≤ aim.last

-- cells into which a step leads from a cell came to those before, and all of them that are in reach
pub record StepsOut (grid : OccupancyGrid) (fixed : List (List Cell)) (t : ℕ) (from : Cell) (aim : Aim) (old new : List Cell) : Type 0 where
  pub kept : (c : Cell) → Contains old c → Contains new c
  pub stepped : (c : Cell) → Contains new c → Contains old c ⊎ MayStep grid fixed t from c
  pub whole : (c : Cell) → MayStep grid fixed t from c → IsInReach aim (t + 1) c → Contains new c

-- cells into which a step leads from one of a layer, and all of them that are in reach
pub record IsNextLayer (grid : OccupancyGrid) (fixed : List (List Cell)) (t : ℕ) (aim : Aim) (layer next : List Cell) : Type 0 where
  pub stepped : (d : Cell) → Contains next d → (c : Cell) × Contains layer c × MayStep grid fixed t c d
  pub whole : (c d : Cell) → Contains layer c → MayStep grid fixed t c d → IsInReach aim (t + 1) d → Contains next d

-- a step leads from the cell into one of the next layer
abbrev pub LeadsInto : OccupancyGrid → List (List Cell) → ℕ → Cell → List Cell → Type 0
LeadsInto grid fixed t c next = (d : Cell) × Contains next d × MayStep grid fixed t c d

-- the cells of a layer from which a step leads into the next one
pub record IsKept (grid : OccupancyGrid) (fixed : List (List Cell)) (t : ℕ) (layer next kept : List Cell) : Type 0 where
  pub lead : (c : Cell) → Contains kept c → Contains layer c × LeadsInto grid fixed t c next
  pub whole : (c : Cell) → Contains layer c → LeadsInto grid fixed t c next → Contains kept c

-- a cell is before another, or is the same
abbrev pub IsAtMost : Cell → Cell → Type 0
IsAtMost a b = IsBefore a b ⊎ (a ≡ b)

-- the lesser of two cells
pub record IsLesser (a b lesser : Cell) : Type 0 where
  pub one : (lesser ≡ a) ⊎ (lesser ≡ b)
  pub first : IsAtMost lesser a
  pub second : IsAtMost lesser b

-- the least cell of the next layer into which a step leads
pub record IsLeastInto (grid : OccupancyGrid) (fixed : List (List Cell)) (t : ℕ) (c : Cell) (next : List Cell) (d : Cell) : Type 0 where
  pub there : Contains next d
  pub step : MayStep grid fixed t c d
  pub least : (e : Cell) → Contains next e → MayStep grid fixed t c e → IsAtMost d e
