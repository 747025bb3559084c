-- The state of a ranking, and what its steps do.
use Rattle.std.specs.Prelude.{ℕ, ◌≡◌, ◌+◌, ◌-◌, ◌*◌, ◌<◌, ◌≤◌, List, [], ◌∷◌, ◌++◌, ◌⊎◌, length, reverse, slice_get, slice_index, sum, vec_len, Some, ◌==◌, if◌then◌else◌}
use Rattle.std.specs.Vec.{vec_capacity}
use Rattle.fleet_base.specs.declared.geometry.Visit.{Visit}
use Rattle.fleet_base.specs.declared.order.PairId.{PairId}
use Rattle.fleet_base.specs.Order.{Graph, last_in, IsSorted, IsCycle}
use Rattle.plan_graph.specs.declared.ranking.Ranked.{Ranked}
use Rattle.plan_graph.specs.declared.ranking.Ranked.TheVariants.{Order, Cycle}
use Rattle.plan_graph.specs.declared.work.Waiting.{Waiting}
use Rattle.plan_graph.specs.declared.work.Work.{Work}
use Rattle.plan_graph.specs.Limits.{visit_count}
use Rattle.plan_graph.specs.Views.{OrientedGraph, order_in}
use Rattle.plan_graph.specs.Listing.{front, ArePassed, IsWorking, bottom}

-- there is room for each robot, and for each visit of the graph
pub record HasRoom (g : Graph) (w : Work) : Type 0 where
  pub listed : vec_len w.listed ≡ length g.lasts
  pub passed : vec_len w.passed ≡ length g.lasts
  pub place : vec_len w.place ≡ length g.lasts
  pub waiting : length g.lasts ≤ vec_capacity w.waiting
  pub cycle : length g.lasts ≤ vec_capacity w.cycle
  pub order : vec_capacity w.order ≡ visit_count g

-- the room is as large as it was
pub record KeepsRoom (old new : Work) : Type 0 where
  pub listed : vec_len new.listed ≡ vec_len old.listed
  pub passed : vec_len new.passed ≡ vec_len old.passed
  pub place : vec_len new.place ≡ vec_len old.place
  pub waiting : vec_capacity new.waiting ≡ vec_capacity old.waiting
  pub cycle : vec_capacity new.cycle ≡ vec_capacity old.cycle
  pub order : vec_capacity new.order ≡ vec_capacity old.order

-- each robot that waits knows its place among those that do
abbrev pub KnowPlaces : List Waiting → List ℕ → Type 0
KnowPlaces waiting place = (k : ℕ) (w : Waiting) → slice_get waiting k ≡ Some w → slice_index place w.robot ≡ k

-- a robot is at work: so many visits of each robot are listed, and so many pairs of its next one do not hold it back
pub record IsUnderway (view : OrientedGraph) (listed passed place : List ℕ) (list : List Visit) (waiting : List Waiting) (i : ℕ) : Type 0 where
  pub working : IsWorking view.graph (order_in view) listed list (reverse waiting) i
  pub behind : (j : ℕ) → ArePassed view.graph (order_in view) listed (front listed j) (slice_index passed j)
  pub places : KnowPlaces waiting place

-- so it is in this room, which holds no cycle yet
pub record IsAtWork (view : OrientedGraph) (w : Work) (i : ℕ) : Type 0 where
  pub room : HasRoom view.graph w
  pub underway : IsUnderway view w.listed.items w.passed.items w.place.items w.order.items w.waiting.items i
  pub no_cycle : w.cycle.items ≡ []

-- how many steps are left at most
abbrev pub steps_left : Graph → List ℕ → List Waiting → ℕ
steps_left g listed waiting = 2 * (visit_count g - sum listed) + (length g.lasts - length waiting)

-- no robot has fewer visits listed
abbrev pub ListsMore : List ℕ → List ℕ → Type 0
ListsMore old new = (j : ℕ) → slice_index old j ≤ slice_index new j

-- the last robot that waits is the next at work, and waits no more; or none waits, and this robot is
abbrev pub PopsTo : List Waiting → List Waiting → ℕ → ℕ → Type 0
PopsTo old new i next = ((w : Waiting) × (old ≡ new ++ w ∷ []) × (next ≡ w.robot)) ⊎ ((old ≡ []) × (new ≡ []) × (next ≡ i))

-- the pairs of the robots that wait, the last one first, back to that of this robot
abbrev pub pairs_back : List Waiting → ℕ → List PairId
pairs_back [] j = []
pairs_back (w ∷ ws) j = w.pair ∷ (if w.robot == j then [] else pairs_back ws j)

-- the room holds a cycle, and no order
pub record HasCycle (view : OrientedGraph) (w : Work) : Type 0 where
  pub room : HasRoom view.graph w
  pub cycle : IsCycle view.graph (order_in view) w.cycle.items
  pub no_order : w.order.items ≡ []

-- a step leads from one robot at work to another, with the same robot at the bottom
pub record StepsTo (view : OrientedGraph) (old new : Work) (i next : ℕ) : Type 0 where
  pub work : IsAtWork view new next
  pub begun : bottom (reverse new.waiting.items) next ≡ bottom (reverse old.waiting.items) i
  pub more : ListsMore old.listed.items new.listed.items
  pub fewer : steps_left view.graph new.listed.items new.waiting.items < steps_left view.graph old.listed.items old.waiting.items

-- all visits of the robot are listed, and no robot waits
pub record ListsRobot (view : OrientedGraph) (old new : Work) (i : ℕ) : Type 0 where
  pub work : IsAtWork view new i
  pub alone : new.waiting.items ≡ []
  pub all : last_in view.graph i < slice_index new.listed.items i
  pub more : ListsMore old.listed.items new.listed.items

-- what listing a robot's visits comes to
abbrev pub RobotEnds : OrientedGraph → Work → Work → ℕ → Ranked → Type 0
RobotEnds view old new i Order = ListsRobot view old new i
RobotEnds view old new i Cycle = HasCycle view new

-- the room holds an order, and no cycle
pub record HasOrder (view : OrientedGraph) (w : Work) : Type 0 where
  pub room : HasRoom view.graph w
  pub order : IsSorted view.graph (order_in view) w.order.items
  pub no_cycle : w.cycle.items ≡ []

-- what the work comes to
abbrev pub WorkEnds : OrientedGraph → Work → Ranked → Type 0
WorkEnds view w Order = HasOrder view w
WorkEnds view w Cycle = HasCycle view w
