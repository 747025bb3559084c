-- How far a search has come: the nodes that it made, on a line in preorder, and the best order.
use Rattle.std.specs.Prelude.{ℕ, ◌≡◌, ◌+◌, ◌≤◌, List, [], ◌∷◌, Option, Some}
use Rattle.fleet_base.specs.declared.geometry.Visit.{Visit}
use Rattle.fleet_base.specs.declared.order.PairId.{PairId}
use Rattle.fleet_base.specs.declared.order.Side.{Side}
use Rattle.fleet_base.specs.declared.order.Side.TheVariants.{Lower, Higher}
use Rattle.fleet_base.specs.Order.{Graph, IsCycle, IsSoundOrder}
use Rattle.fleet_base.specs.State.{FleetState, order_at}
use Rattle.fleet_base.specs.Schedule.{IsLeastSchedule, IsCost, end_sum_of}
use Rattle.cert_tree.specs.Decisions.{Decision, order_on, IsFree}
use Rattle.cert_tree.specs.Trees.{branch_to, force_to}
use Rattle.fleet_base.specs.Groups.{AreMates}
use Rattle.fleet_base.specs.Open.{KeepsClosed}
use Rattle.order_choice.specs.declared.made.Forcing.{Forcing}
use Rattle.order_choice.specs.declared.made.Stand.{Stand}
use Rattle.order_choice.specs.declared.made.Stand.TheVariants.{Round, Waiting, Expanded}
use Rattle.order_choice.specs.declared.made.MadeNode.{MadeNode}
use Rattle.order_choice.specs.Candidates.{IsNoCheaper, IsInConflict}

-- the decisions after forcings
abbrev pub forced_on : List Forcing → List Decision → List Decision
forced_on [] way = way
forced_on (f ∷ fs) way = forced_on fs (force_to f.pair f.side ∷ way)

-- the ways that are still to come behind a node: those to its children, if it has them, and then the others
abbrev pub ways_beyond : Stand → List Decision → List (List Decision) → List (List Decision)
ways_beyond (Round cycle) way ways = ways
ways_beyond (Waiting cost) way ways = ways
ways_beyond (Expanded cost q) way ways = (branch_to q Lower ∷ way) ∷ (branch_to q Higher ∷ way) ∷ ways

-- the nodes on a line, the ways to them being these, each meet a rule, and the last one ends the tree
abbrev pub EachOnLine : (List Decision → MadeNode → Type 0) → List MadeNode → List (List Decision) → Type 0
EachOnLine meets [] ways = ways ≡ []
EachOnLine meets (n ∷ line) [] = ⊥
EachOnLine meets (n ∷ line) (way ∷ ways) = meets way n × EachOnLine meets line (ways_beyond n.stand (forced_on n.forced way) ways)

-- the ways that are still to come behind some nodes of a line
abbrev pub ways_past : List MadeNode → List (List Decision) → List (List Decision)
ways_past [] ways = ways
ways_past (n ∷ line) [] = []
ways_past (n ∷ line) (way ∷ ways) = ways_past line (ways_beyond n.stand (forced_on n.forced way) ways)

-- each forced pair was free and had a mate with that side
abbrev pub AreForced : Graph → FleetState → List Forcing → List Decision → Type 0
AreForced g x [] way = Unit {0}
AreForced g x (f ∷ fs) way = IsFree g x way f.pair.0 × AreMates g f.mate.0 f.pair.0 × (order_on g x way f.mate.0 ≡ Some f.side) × AreForced g x fs (force_to f.pair f.side ∷ way)

-- forcing is at its end: every mate of a free pair is free
abbrev pub IsForcedOut : Graph → FleetState → List Decision → Type 0
IsForcedOut g x way = (q r : ℕ) → IsFree g x way q → AreMates g q r → IsFree g x way r

-- a part decision without a cycle, at the end of forcing, with its relaxed cost
pub record IsRelaxed (g : Graph) (x : FleetState) (way : List Decision) (cost : ℕ) : Type 0 where
  pub ticks : Visit → ℕ
  pub least : IsLeastSchedule g x (order_on g x way) ticks
  pub sum : end_sum_of g ticks ≡ cost
  pub forced : IsForcedOut g x way

-- a node stands as it says
abbrev pub StandsSo : Graph → FleetState → List Decision → Stand → Type 0
StandsSo g x way (Round cycle) = IsCycle g (order_on g x way) cycle
StandsSo g x way (Waiting cost) = IsRelaxed g x way cost
StandsSo g x way (Expanded cost q) = IsRelaxed g x way cost × ((s : Visit → ℕ) → IsLeastSchedule g x (order_on g x way) s → IsInConflict g x way s q.0)

-- what each node made meets: the first fact, over the line
abbrev pub IsMadeRight : Graph → FleetState → List Decision → MadeNode → Type 0
IsMadeRight g x way n = AreForced g x n.forced way × StandsSo g x (forced_on n.forced way) n.stand

-- the candidate of a node without a cycle is no cheaper than the best order
abbrev pub IsWeighedAs : Graph → FleetState → ℕ → List Decision → Stand → Type 0
IsWeighedAs g x best way (Round cycle) = Unit {0}
IsWeighedAs g x best way (Waiting cost) = IsNoCheaper g x best way
IsWeighedAs g x best way (Expanded cost q) = IsNoCheaper g x best way

-- so for each node made: the second fact, over the line
abbrev pub IsMadeDear : Graph → FleetState → ℕ → List Decision → MadeNode → Type 0
IsMadeDear g x best way n = IsWeighedAs g x best (forced_on n.forced way) n.stand

-- what was expanded costs at most so much, and what is left at least so much
abbrev pub IsParted : ℕ → Stand → Type 0
IsParted level (Round cycle) = Unit {0}
IsParted level (Waiting cost) = level ≤ cost
IsParted level (Expanded cost q) = cost ≤ level

-- so for each node made: the third fact, over the line without its ways
abbrev pub AreParted : ℕ → List MadeNode → Type 0
AreParted level [] = Unit {0}
AreParted level (n ∷ line) = IsParted level n.stand × AreParted level line

-- a node that is left costs at least so much
abbrev pub IsAbove : ℕ → Stand → Type 0
IsAbove level (Round cycle) = Unit {0}
IsAbove level (Waiting cost) = level ≤ cost
IsAbove level (Expanded cost q) = Unit {0}

-- so does each of the line: a node with the least cost that is left may be expanded next
abbrev pub AreAbove : ℕ → List MadeNode → Type 0
AreAbove level [] = Unit {0}
AreAbove level (n ∷ line) = IsAbove level n.stand × AreAbove level line

-- a node that was just made is not expanded
pub data IsNew : Stand → Type 0 where
  new_round : (cycle : List PairId) → IsNew (Round cycle)
  new_waiting : (cost : ℕ) → IsNew (Waiting cost)

-- 1 for a node that was expanded
abbrev pub expanded_of : Stand → ℕ
expanded_of (Round cycle) = 0
expanded_of (Waiting cost) = 0
expanded_of (Expanded cost q) = 1

-- how many nodes were expanded
abbrev pub expanded_in : List MadeNode → ℕ
expanded_in [] = 0
expanded_in (n ∷ line) = expanded_of n.stand + expanded_in line

-- the best order: sound, with the closed pairs' sides, of this cost, and no dearer than the state's
pub record IsBest (g : Graph) (x : FleetState) (order : ℕ → Option Side) (best : ℕ) : Type 0 where
  pub sound : IsSoundOrder g order
  pub closed : KeepsClosed g x order
  pub costs : IsCost g x order best
  pub no_dearer : (old : ℕ) → IsCost g x (order_at g x) old → best ≤ old

-- how far a search has come that expanded so many nodes
pub record IsSearched (g : Graph) (x : FleetState) (line : List MadeNode) (order : ℕ → Option Side) (cost level expanded : ℕ) : Type 0 where
  pub right : EachOnLine (IsMadeRight g x) line ([] ∷ [])
  pub dear : EachOnLine (IsMadeDear g x cost) line ([] ∷ [])
  pub parted : AreParted level line
  pub count : expanded_in line ≡ expanded
  pub best : IsBest g x order cost

-- a node as it is made, the decisions above it being these: it is not expanded, stands as it says after its forcings, and its
-- candidate is no cheaper than the best order
pub record IsMade (g : Graph) (x : FleetState) (best : ℕ) (way : List Decision) (n : MadeNode) : Type 0 where
  pub fresh : IsNew n.stand
  pub right : IsMadeRight g x way n
  pub dear : IsMadeDear g x best way n
