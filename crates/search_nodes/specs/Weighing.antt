-- What a part decision costs, and which side each pair has in its candidate.
use Rattle.std.specs.Prelude.{ℕ, ◌≡◌, ◌<◌, ◌≤◌, length, slice_get, Option, Some, None}
use Rattle.fleet_base.specs.declared.geometry.Visit.{Visit}
use Rattle.fleet_base.specs.declared.order.Pair.{Pair}
use Rattle.fleet_base.specs.declared.order.Side.{Side}
use Rattle.fleet_base.specs.Order.{Graph, IsCycle, IsSoundOrder, other_side}
use Rattle.fleet_base.specs.State.{FleetState, order_at}
use Rattle.fleet_base.specs.Groups.{AreMates}
use Rattle.fleet_base.specs.Schedule.{IsCost, IsLeastSchedule, ObeysSide, end_sum_of}
use Rattle.plan_graph.specs.Views.{OrientedGraph}
use Rattle.order_choice.specs.declared.made.Stand.{Stand}
use Rattle.order_choice.specs.declared.made.Stand.TheVariants.{Round, Waiting, Expanded}
use Rattle.order_choice.specs.Candidates.{IsSuggested}

-- the last ticks of the least schedule that obeys an order have this sum
pub record IsLeastSum (g : Graph) (x : FleetState) (order : ℕ → Option Side) (sum : ℕ) : Type 0 where
  pub ticks : Visit → ℕ
  pub least : IsLeastSchedule g x order ticks
  pub sum_is : end_sum_of g ticks ≡ sum

-- the side of a pair in the candidate of an order: that of the order, or else the one that its least schedule suggests
pub record IsCandidateSide (g : Graph) (x : FleetState) (order : ℕ → Option Side) (q : ℕ) (side : Side) : Type 0 where
  pub given : (d : Side) → order q ≡ Some d → side ≡ d
  pub suggested : (pair : Pair) (old : Side) (s : Visit → ℕ) → order q ≡ None → slice_get g.pairs q ≡ Some pair → order_at g x q ≡ Some old → IsLeastSchedule g x order s → IsSuggested x s pair old side

-- the order gives each pair its side in the candidate, and nothing else has one
pub record IsCandidateOrder (g : Graph) (x : FleetState) (given order : ℕ → Option Side) : Type 0 where
  pub sides : (q : ℕ) → q < length g.pairs → (side : Side) × (order q ≡ Some side) × IsCandidateSide g x given q side
  pub past : (q : ℕ) → length g.pairs ≤ q → order q ≡ None

-- in the candidate of an order a pair has another side than one of its mates
pub record IsPartedAt (g : Graph) (x : FleetState) (order : ℕ → Option Side) (q : ℕ) : Type 0 where
  pub mate : ℕ
  pub mates : AreMates g q mate
  pub side : Side
  pub here : IsCandidateSide g x order q side
  pub there : IsCandidateSide g x order mate (other_side side)

-- an order is not sound, or costs at least so much
abbrev pub IsDear : Graph → FleetState → (ℕ → Option Side) → ℕ → Type 0
IsDear g x order bound = IsSoundOrder g order → (c : ℕ) → IsCost g x order c → bound ≤ c

-- a view is of a graph, with a place for each pair
pub record IsViewOf (g : Graph) (view : OrientedGraph) : Type 0 where
  pub graph : view.graph ≡ g
  pub sides : length view.sides ≡ length g.pairs

-- a pair has no side in the order, and a schedule obeys neither of its edges
pub record IsUndecidable (g : Graph) (x : FleetState) (order : ℕ → Option Side) (s : Visit → ℕ) (q : ℕ) : Type 0 where
  pub none : order q ≡ None
  pub neither : (pair : Pair) (side : Side) → slice_get g.pairs q ≡ Some pair → ¬ ObeysSide x s pair side

-- a node stands as one whose order has a cycle
abbrev pub IsRound : Graph → (ℕ → Option Side) → Stand → Type 0
IsRound g order (Round cycle) = IsCycle g order cycle
IsRound g order (Waiting cost) = ⊥
IsRound g order (Expanded cost q) = ⊥
