-- How far a ranking has come: which visits are listed, and which robots wait for which.
use Rattle.std.specs.Prelude.{ℕ, ◌≡◌, ◌+◌, ◌<◌, ◌≤◌, List, [], ◌∷◌, map, length, slice_get, slice_index, sum, Option, Some, Contains}
use Rattle.fleet_base.specs.declared.geometry.Visit.{Visit}
use Rattle.fleet_base.specs.declared.order.PairId.{PairId}
use Rattle.fleet_base.specs.declared.order.Side.{Side}
use Rattle.fleet_base.specs.Lists.{Chain, AllDifferent}
use Rattle.fleet_base.specs.Pairs.{numbers_of}
use Rattle.fleet_base.specs.Order.{Graph, IsVisit, last_in, HasEdge, Before, LeadsTo}
use Rattle.plan_graph.specs.declared.work.Waiting.{Waiting}

-- the visit of a robot that comes next, where so many of each robot's are listed
abbrev pub front : List ℕ → ℕ → Visit
front listed i = record { robot = i; index = slice_index listed i }

-- the list has the first visits of each robot, as many as are listed, each after everything that is before it
pub record IsListing (g : Graph) (order : ℕ → Option Side) (listed : List ℕ) (list : List Visit) : Type 0 where
  pub robots : length listed ≡ length g.lasts
  pub within : (i : ℕ) → i < length g.lasts → slice_index listed i ≤ last_in g i + 1
  pub there : (v : Visit) → Contains list v → v.index < slice_index listed v.robot
  pub each : (v : Visit) → v.index < slice_index listed v.robot → Contains list v
  pub once : AllDifferent list
  pub earlier : (k : ℕ) (u v : Visit) → slice_get list k ≡ Some v → Before g order u v → IsVisit g u → (j : ℕ) × (j < k) × (slice_get list j ≡ Some u)
  pub count : length list ≡ sum listed

-- the pair does not hold the visit back: what it puts before the visit is listed
abbrev pub IsPassed : Graph → (ℕ → Option Side) → List ℕ → Visit → PairId → Type 0
IsPassed g order listed v q = (u : Visit) → HasEdge g order q.0 u v → IsVisit g u → u.index < slice_index listed u.robot

-- the first so many pairs of the visit do not
abbrev pub ArePassed : Graph → (ℕ → Option Side) → List ℕ → Visit → ℕ → Type 0
ArePassed g order listed v n = (k : ℕ) (q : PairId) → k < n → slice_get (numbers_of g.pairs v) k ≡ Some q → IsPassed g order listed v q

-- no pair does
abbrev pub IsFree : Graph → (ℕ → Option Side) → List ℕ → Visit → Type 0
IsFree g order listed v = (q : ℕ) (u : Visit) → HasEdge g order q u v → IsVisit g u → u.index < slice_index listed u.robot

-- a pair holds a robot's next visit back: what it puts before it is a visit of another robot that is not listed
pub record IsBlocked (g : Graph) (order : ℕ → Option Side) (listed : List ℕ) (i : ℕ) (q : PairId) (j : ℕ) : Type 0 where
  pub tail : Visit
  pub edge : HasEdge g order q.0 tail (front listed i)
  pub here : IsVisit g (front listed i)
  pub there : IsVisit g tail
  pub robot : tail.robot ≡ j
  pub unlisted : slice_index listed j ≤ tail.index

-- the first robot of the list waits for this one, and each other one for the robot in front of it
abbrev pub Waits : Graph → (ℕ → Option Side) → List ℕ → List Waiting → ℕ → Type 0
Waits g order listed [] i = Unit {0}
Waits g order listed (w ∷ ws) i = IsBlocked g order listed w.robot w.pair i × Waits g order listed ws w.robot

-- the robots that wait
abbrev pub robots_of : List Waiting → List ℕ
robots_of ws = map (λ w. w.robot) ws

-- the robot that waits longest, or else the one at work
abbrev pub bottom : List Waiting → ℕ → ℕ
bottom [] i = i
bottom (w ∷ ws) i = bottom ws w.robot

-- pairs that lead on, one to the next, to whatever waits for the robot
abbrev pub IsTrail : Graph → (ℕ → Option Side) → List ℕ → PairId → List PairId → ℕ → Type 0
IsTrail g order listed q rest i = (x : ℕ) (r : PairId) → IsBlocked g order listed x r i → Chain (λ a b. LeadsTo g order a.0 b.0) q rest r

-- a list that has grown so far, and the robots that wait, the last one first, for the robot at work
pub record IsWorking (g : Graph) (order : ℕ → Option Side) (listed : List ℕ) (list : List Visit) (ws : List Waiting) (i : ℕ) : Type 0 where
  pub listing : IsListing g order listed list
  pub waits : Waits g order listed ws i
  pub apart : AllDifferent (i ∷ robots_of ws)
