-- The faults of a plan, and which of them is the first.
use Rattle.std.specs.Prelude.{ℕ, ◌≡◌, ◌⊎◌, ◌+◌, ◌-◌, ◌<◌, ◌≤◌, List, [], ◌∷◌, length, sum_by, slice_index, false, All}
use Rattle.fleet_base.specs.declared.geometry.Cell.{Cell}
use Rattle.fleet_base.specs.Lists.{row_of}
use Rattle.fleet_base.specs.Grid.{OccupancyGrid, is_free, distance}
use Rattle.fleet_base.specs.Plan.{cell_at, visits_of, IsRotation}
use Rattle.fleet_base.specs.Limits.{robot_limit, tick_limit, visit_limit}
use Rattle.plan_check.specs.declared.fault.Large.{Large}
use Rattle.plan_check.specs.declared.fault.Large.TheVariants.{Robots, Ticks, Visits}
use Rattle.plan_check.specs.declared.fault.Unsound.{Unsound}
use Rattle.plan_check.specs.declared.fault.Unsound.TheVariants.{TooLarge, Blocked, Jump, Share, Swap, Rotation}

-- the first limit that a plan is above, and the number that is above it: the robots, the last listed tick of the first robot
-- for which that is too late, or the visits of all robots
pub data IsTooLarge (plan : List (List Cell)) (count : ℕ) : Large → Type 0 where
  too_many_robots : robot_limit < length plan → count ≡ length plan → IsTooLarge plan count Robots
  too_many_ticks : length plan ≤ robot_limit → (i : ℕ) → i < length plan → tick_limit + 1 < length (row_of plan i) → count ≡ length (row_of plan i) - 1
      → ((j : ℕ) → j < i → length (row_of plan j) ≤ tick_limit + 1) → IsTooLarge plan count Ticks
  too_many_visits : length plan ≤ robot_limit → All (λ path. length path ≤ tick_limit + 1) plan → visit_limit < sum_by length (visits_of plan)
      → count ≡ sum_by length (visits_of plan) → IsTooLarge plan count Visits

-- a fault of the plan: a limit that it is above; a listed cell that is not free; a listed step to a cell that is no neighbour;
-- two robots in one cell; two that exchange their cells; three or more, each of which enters the cell in which the next one
-- was, and the last one that of the first. Who jumps, swaps or rotates enters a cell at the tick
abbrev pub IsFault : OccupancyGrid → List (List Cell) → Unsound → Type 0
IsFault grid plan (TooLarge which count) = IsTooLarge plan count which
IsFault grid plan (Blocked i t) = (i < length plan) × (t < length (row_of plan i)) × (is_free grid (cell_at plan i t) ≡ false)
IsFault grid plan (Jump i t) = (i < length plan) × (1 ≤ t) × (t < length (row_of plan i)) × (1 < distance (cell_at plan i (t - 1)) (cell_at plan i t))
IsFault grid plan (Share i j t) = (i < j) × (j < length plan) × (cell_at plan i t ≡ cell_at plan j t)
IsFault grid plan (Swap i j t) = (i < j) × (j < length plan) × (1 ≤ t) × (cell_at plan i t ≡ cell_at plan j (t - 1)) × (cell_at plan j t ≡ cell_at plan i (t - 1))
IsFault grid plan (Rotation robots t) = (1 ≤ t) × IsRotation plan (t - 1) robots

-- the tick of a fault; a plan that is too large is so from the start
abbrev pub tick_of : Unsound → ℕ
tick_of (TooLarge which count) = 0
tick_of (Blocked i t) = t
tick_of (Jump i t) = t
tick_of (Share i j t) = t
tick_of (Swap i j t) = t
tick_of (Rotation robots t) = t

-- the place of a fault's kind among the kinds
abbrev pub kind_of : Unsound → ℕ
kind_of (TooLarge which count) = 0
kind_of (Blocked i t) = 1
kind_of (Jump i t) = 2
kind_of (Share i j t) = 3
kind_of (Swap i j t) = 4
kind_of (Rotation robots t) = 5

-- the robots by which faults of one kind at one tick are ordered; a rotation counts by the robot from which it is listed, so
-- that the first one is listed from its least robot
abbrev pub robots_of : Unsound → List ℕ
robots_of (TooLarge which count) = []
robots_of (Blocked i t) = i ∷ []
robots_of (Jump i t) = i ∷ []
robots_of (Share i j t) = i ∷ j ∷ []
robots_of (Swap i j t) = i ∷ j ∷ []
robots_of (Rotation robots t) = slice_index robots 0 ∷ []

-- what faults are ordered by: the tick, the kind, the robots
abbrev pub rank_of : Unsound → List ℕ
rank_of fault = tick_of fault ∷ kind_of fault ∷ robots_of fault

-- number by number, the first difference deciding
abbrev pub IsAtMost : List ℕ → List ℕ → Type 0
IsAtMost [] ys = Unit {0}
IsAtMost (x ∷ xs) [] = ⊥
IsAtMost (x ∷ xs) (y ∷ ys) = (x < y) ⊎ ((x ≡ y) × IsAtMost xs ys)

-- the fault is one of the plan, and none comes before it
pub record IsFirstFault (grid : OccupancyGrid) (plan : List (List Cell)) (fault : Unsound) : Type 0 where
  pub here : IsFault grid plan fault
  pub first : (other : Unsound) → IsFault grid plan other → IsAtMost (rank_of fault) (rank_of other)

-- the plan has no fault
abbrev pub IsFaultless : OccupancyGrid → List (List Cell) → Type 0
IsFaultless grid plan = (fault : Unsound) → IsFault grid plan fault → ⊥
