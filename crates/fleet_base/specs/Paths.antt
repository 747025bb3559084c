-- Paths: walks over visits by the edges of pairs, and how long they last.
use Rattle.std.specs.Prelude.{ℕ, ◌+◌, ◌-◌, max, List, [], ◌∷◌, slice_get, sum_by, Bool, ◌==◌, ◌&&◌, nat_lt, nat_le, Option, Some, None, option_and_then, if◌then◌else◌}
use Rattle.std.specs.Option.{option_map_or, option_map}
use Rattle.fleet_base.specs.declared.geometry.Visit.{Visit}
use Rattle.fleet_base.specs.declared.order.Edge.{Edge}
use Rattle.fleet_base.specs.declared.order.Side.{Side}
use Rattle.fleet_base.specs.declared.order.PairId.{PairId}
use Rattle.fleet_base.specs.Lists.{range}
use Rattle.fleet_base.specs.Order.{Graph, last_in, next_visit, first_visit, second_visit}
use Rattle.fleet_base.specs.State.{FleetState, arrived_count, released_count, arrival_tick_of, release_tick_of, duration_of}

-- the edge of a pair, if it is there and has a side
abbrev pub edge_in : Graph → (ℕ → Option Side) → ℕ → Option Edge
edge_in g order q = option_and_then (λ pair. option_map (λ side. record { tail = next_visit (first_visit pair side); head = second_visit pair side }) (order q)) (slice_get g.pairs q)

-- how long the moves of a robot last that lead from a visit on to this one
abbrev pub travel : FleetState → Visit → ℕ → ℕ
travel x v k = sum_by (λ m. duration_of x (record { robot = v.robot; index = m })) (range (v.index + 1) (k + 1))

-- whether a walk that is at a visit can go along its robot to the other visit
abbrev pub leads_on : Graph → Visit → Visit → Bool
leads_on g at to = at.robot == to.robot && (nat_le at.index to.index && nat_le to.index (last_in g to.robot))

-- the tick at which a walk ends that is at a visit at a tick, goes by these pairs and ends at the last visit of robot i
abbrev pub walk_end : Graph → FleetState → (ℕ → Option Side) → ℕ → Visit → ℕ → List PairId → Option ℕ
walk_end g x order i at tick [] = if at.robot == i then Some (tick + travel x at (last_in g i)) else None
walk_end g x order i at tick (q ∷ qs) = option_and_then (λ e. if leads_on g at e.tail then walk_end g x order i e.head (tick + travel x at e.tail.index + duration_of x e.head) qs else None) (edge_in g order q.0)

-- the first visit of a robot that has not arrived, if it has not finished
abbrev pub coming : FleetState → ℕ → Visit
coming x i = record { robot = i; index = arrived_count x i }

-- when its move there can end, other robots apart
abbrev pub start_tick : FleetState → ℕ → ℕ
start_tick x i = if nat_lt (arrived_count x i) (released_count x i) then max x.clock (max (release_tick_of x (coming x i) + duration_of x (coming x i)) (arrival_tick_of x (record { robot = i; index = arrived_count x i - 1 }) + duration_of x (coming x i))) else x.clock + duration_of x (coming x i)

-- whether a robot has arrived at its last visit
abbrev pub has_finished : Graph → FleetState → ℕ → Bool
has_finished g x i = nat_lt (last_in g i) (arrived_count x i)

-- the robot on which a path for robot i begins
abbrev pub start_robot : Graph → (ℕ → Option Side) → ℕ → List PairId → ℕ
start_robot g order i [] = i
start_robot g order i (q ∷ qs) = option_map_or (λ e. e.tail.robot) (edge_in g order q.0) i

-- a robot that has finished has the empty path alone, which ends when it arrived
abbrev pub finished_length : Graph → FleetState → ℕ → List PairId → Option ℕ
finished_length g x i [] = Some (arrival_tick_of x (record { robot = i; index = last_in g i }))
finished_length g x i (q ∷ qs) = None

-- the length of a path for robot i, and None if these pairs are none
abbrev pub path_length : Graph → FleetState → (ℕ → Option Side) → ℕ → List PairId → Option ℕ
path_length g x order i pairs = if has_finished g x i then finished_length g x i pairs else walk_end g x order i (coming x (start_robot g order i pairs)) (start_tick x (start_robot g order i pairs)) pairs
