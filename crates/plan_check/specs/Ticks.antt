-- The faults of one kind at one tick: what the parts of the check answer.
use Rattle.std.specs.Prelude.{ℕ, ◌≡◌, ◌⊎◌, ◌-◌, ◌<◌, ◌≤◌, List, [], ◌∷◌, Bool, true, false, Option, MatchOption, length, slice_index, slice_index_or, Contains}
use Rattle.fleet_base.specs.declared.geometry.Cell.{Cell}
use Rattle.fleet_base.specs.Lists.{row_of}
use Rattle.fleet_base.specs.Grid.{OccupancyGrid, distance}
use Rattle.fleet_base.specs.Plan.{cell_at, Follows, IsRotation}
use Rattle.plan_check.specs.declared.fault.Unsound.{Unsound}
use Rattle.plan_check.specs.Faults.{IsFault, tick_of, kind_of, robots_of, IsAtMost}

-- the fault has this tick and this kind
pub record IsOf (t k : ℕ) (fault : Unsound) : Type 0 where
  pub tick : tick_of fault ≡ t
  pub kind : kind_of fault ≡ k

-- no fault has an earlier tick, or this tick and an earlier kind
abbrev pub NoneBefore : OccupancyGrid → List (List Cell) → ℕ → ℕ → Type 0
NoneBefore grid plan t k = (fault : Unsound) → IsFault grid plan fault → (tick_of fault < t) ⊎ ((tick_of fault ≡ t) × (kind_of fault < k)) → ⊥

-- no fault has this tick and this kind
abbrev pub NoneOf : OccupancyGrid → List (List Cell) → ℕ → ℕ → Type 0
NoneOf grid plan t k = (fault : Unsound) → IsOf t k fault → IsFault grid plan fault → ⊥

-- the fault is the first with this tick and this kind
pub record IsFirstOf (grid : OccupancyGrid) (plan : List (List Cell)) (t k : ℕ) (fault : Unsound) : Type 0 where
  pub same : IsOf t k fault
  pub here : IsFault grid plan fault
  pub first : (other : Unsound) → IsOf t k other → IsFault grid plan other → IsAtMost (robots_of fault) (robots_of other)

-- the first fault with this tick and this kind, or none where there is none
abbrev pub IsFirstOrNone : OccupancyGrid → List (List Cell) → ℕ → ℕ → Option Unsound → Type 0
IsFirstOrNone grid plan t k answer = MatchOption answer (NoneOf grid plan t k) (IsFirstOf grid plan t k)

-- the robot is listed at the tick in a cell that is no neighbour of the one before
abbrev pub Jumps : List (List Cell) → ℕ → ℕ → Type 0
Jumps plan i t = (1 ≤ t) × (t < length (row_of plan i)) × (1 < distance (cell_at plan i (t - 1)) (cell_at plan i t))

-- no two robots are in one cell at the tick
abbrev pub IsApart : List (List Cell) → ℕ → Type 0
IsApart plan t = (i j : ℕ) → i < j → j < length plan → cell_at plan i t ≡ cell_at plan j t → ⊥

-- two robots enter each other's cells at the tick
pub record Swaps (plan : List (List Cell)) (t i j : ℕ) : Type 0 where
  pub below : i < j
  pub there : j < length plan
  pub one : cell_at plan i t ≡ cell_at plan j (t - 1)
  pub other : cell_at plan j t ≡ cell_at plan i (t - 1)

-- no two robots enter each other's cells at the tick
abbrev pub IsSwapFree : List (List Cell) → ℕ → Type 0
IsSwapFree plan t = (i j : ℕ) → Swaps plan t i j → ⊥

-- robots enter cells at the tick, no two share one before, and no two share one then
pub record MovesApart (plan : List (List Cell)) (t : ℕ) : Type 0 where
  pub tick : 1 ≤ t
  pub before : IsApart plan (t - 1)
  pub after : IsApart plan t

-- the first two robots between which a relation holds, or none where it holds nowhere
abbrev pub IsFirstPair : (ℕ → ℕ → Type 0) → Option (ℕ × ℕ) → Type 0
IsFirstPair R pair = MatchOption pair ((i j : ℕ) → R i j → ⊥) (λ p. R p.0 p.1 × ((i j : ℕ) → R i j → IsAtMost (p.0 ∷ p.1 ∷ []) (i ∷ j ∷ [])))

-- the robot of a greater number with which a robot exchanges its cell at the tick, if it is one
abbrev pub IsPartner : List (List Cell) → ℕ → ℕ → Option ℕ → Type 0
IsPartner plan t i partner = MatchOption partner ((j : ℕ) → Swaps plan t i j → ⊥) (Swaps plan t i)

-- from the tick to the next a robot changes its cell, and enters the one in which another was that is there
pub record Enters (plan : List (List Cell)) (t i j : ℕ) : Type 0 where
  pub follows : Follows plan t i j
  pub there : j < length plan

-- whose cell the robot enters from the tick to the next, if it is one
abbrev pub IsLeader : List (List Cell) → ℕ → ℕ → Option ℕ → Type 0
IsLeader plan t i leader = MatchOption leader ((j : ℕ) → Enters plan t i j → ⊥) (Enters plan t i)

-- the robot is one of those that rotate from a tick to the next
abbrev pub IsOnRotation : List (List Cell) → ℕ → ℕ → Type 0
IsOnRotation plan t i = (robots : List ℕ) × IsRotation plan t robots × Contains robots i

-- the rotation from a tick to the next whose first robot is the least, or none where there is none
abbrev pub IsFirstRotation : List (List Cell) → ℕ → Option (List ℕ) → Type 0
IsFirstRotation plan t rotation = MatchOption rotation ((robots : List ℕ) → IsRotation plan t robots → ⊥)
    (λ robots. IsRotation plan t robots × ((others : List ℕ) → IsRotation plan t others → slice_index robots 0 ≤ slice_index others 0))

-- whether a robot is marked
abbrev pub IsMarked : List Bool → ℕ → Type 0
IsMarked marks i = slice_index_or marks i false ≡ true

-- no robot that is marked rotates from the tick to the next
abbrev pub AreOut : List (List Cell) → ℕ → List Bool → Type 0
AreOut plan t marks = (i : ℕ) → IsMarked marks i → IsOnRotation plan t i → ⊥

-- the rotation through a robot, listed from it, or its mark where there is none, and all that are marked do not rotate
abbrev pub IsRingFrom : List (List Cell) → ℕ → ℕ → List Bool → Option (List ℕ) → Type 0
IsRingFrom plan t head marks ring = MatchOption ring (IsMarked marks head × AreOut plan t marks) (λ robots. IsRotation plan t robots × (slice_index robots 0 ≡ head))
