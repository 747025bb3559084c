-- What a round over all visits does to ticks: each visit gets the least tick that its state, its robot's visit before and
-- the edges into it ask for.
use Rattle.std.specs.Prelude.{ℕ, ◌≡◌, ◌+◌, ◌<◌, ◌≤◌, ◌*◌, zero, suc, max, Bool, true, false, List, length, slice_index, map, Option, Some, None, nat_lt, if◌then◌else◌}
use Rattle.fleet_base.specs.declared.geometry.Visit.{Visit}
use Rattle.fleet_base.specs.declared.order.Side.{Side}
use Rattle.fleet_base.specs.Lists.{row_of}
use Rattle.fleet_base.specs.Pairs.{same_visit}
use Rattle.plan_graph.specs.Limits.{visit_count}
use Rattle.fleet_base.specs.Order.{Graph, IsVisit, IsSorted, last_in}
use Rattle.fleet_base.specs.State.{FleetState, HasArrived, arrived_count, released_count, arrival_tick_of, release_tick_of, duration_of}
use Rattle.fleet_base.specs.Schedule.{IsSchedule, Obeys, own_tick, IsBelowAll}
use Rattle.fleet_base.specs.declared.order.Edge.{Edge}
use Rattle.fleet_base.specs.Paths.{edge_in}

-- what the edge along the robot asks for
abbrev pub along_bound : FleetState → (Visit → ℕ) → Visit → ℕ → ℕ
along_bound x f v zero = 0
along_bound x f v (suc k) = f (record { robot = v.robot; index = k }) + duration_of x v

-- what an edge asks of a visit
abbrev pub edge_bound : FleetState → (Visit → ℕ) → Visit → Option Edge → ℕ
edge_bound x f v None = 0
edge_bound x f v (Some e) = if same_visit e.head v then f e.tail + duration_of x v else 0

-- what the edges of the first n pairs ask for
abbrev pub pair_bound : Graph → FleetState → (ℕ → Option Side) → (Visit → ℕ) → Visit → ℕ → ℕ
pair_bound g x order f v zero = 0
pair_bound g x order f v (suc n) = max (edge_bound x f v (edge_in g order n)) (pair_bound g x order f v n)

-- all of it together
abbrev pub asked : Graph → FleetState → (ℕ → Option Side) → (Visit → ℕ) → Visit → ℕ
asked g x order f v = max (own_tick x v) (max (along_bound x f v v.index) (pair_bound g x order f v (length g.pairs)))

-- the tick of a visit after a round
abbrev pub raised : Graph → FleetState → (ℕ → Option Side) → (Visit → ℕ) → Visit → ℕ
raised g x order f v = if nat_lt v.index (arrived_count x v.robot) then arrival_tick_of x v else asked g x order f v

-- the ticks after n rounds from nothing
abbrev pub rounds : Graph → FleetState → (ℕ → Option Side) → ℕ → Visit → ℕ
rounds g x order zero v = 0
rounds g x order (suc n) v = raised g x order (rounds g x order n) v

-- what has arrived has no tick past its arrival
abbrev pub IsPast : Graph → FleetState → (Visit → ℕ) → Type 0
IsPast g x f = (v : Visit) → IsVisit g v → HasArrived x v → f v ≤ arrival_tick_of x v

-- no tick is above the bound
abbrev pub IsBelow : ℕ → (Visit → ℕ) → Type 0
IsBelow bound f = (v : Visit) → f v ≤ bound

-- the ticks are at least those of so many rounds
abbrev pub HasRounds : Graph → FleetState → (ℕ → Option Side) → ℕ → (Visit → ℕ) → Type 0
HasRounds g x order n f = (v : Visit) → IsVisit g v → rounds g x order n v ≤ f v

-- a round raises no tick
abbrev pub IsSettled : Graph → FleetState → (ℕ → Option Side) → (Visit → ℕ) → Type 0
IsSettled g x order f = (v : Visit) → IsVisit g v → raised g x order f v ≤ f v

-- the tick of one visit is raised to what is asked of it, if it is below, and the others stay
pub record Raises (g : Graph) (x : FleetState) (order : ℕ → Option Side) (old new : Visit → ℕ) (v : Visit) (raises : Bool) : Type 0 where
  pub here : new v ≡ max (old v) (raised g x order old v)
  pub there : (u : Visit) → ¬ (u ≡ v) → new u ≡ old u
  pub was_below : raises ≡ true → old v < raised g x order old v
  pub was_not : raises ≡ false → raised g x order old v ≤ old v

-- A round keeps what is low low and what is past past, and makes ticks of n rounds ones of n + 1. It raises nothing exactly
-- where nothing is to be raised, and then leaves the ticks. Where the order has no cycle, it raises nothing after as many rounds as there are visits.
pub record RaisesAll (g : Graph) (x : FleetState) (order : ℕ → Option Side) (old new : Visit → ℕ) (raises : Bool) : Type 0 where
  pub low : IsBelowAll g x order old → IsBelowAll g x order new
  pub past : IsPast g x old → IsPast g x new
  pub round : (n : ℕ) → HasRounds g x order n old → HasRounds g x order (suc n) new
  pub bound : (b : ℕ) → 2000000000000 ≤ b → IsBelow b old → IsBelow (b + 16777216 * 1000001) new
  pub settled : raises ≡ false → IsSettled g x order new
  pub ends : (list : List Visit) → IsSorted g order list → IsBelowAll g x order old → HasRounds g x order (visit_count g) old → raises ≡ false
