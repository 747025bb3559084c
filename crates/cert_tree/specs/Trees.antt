-- Trees that show that no lawful schedule is cheaper, or how far a search came.
use Rattle.std.specs.Prelude.{ℕ, ◌≡◌, ◌+◌, ◌<◌, ◌≤◌, List, [], ◌∷◌, ◌++◌, true, false, Contains, All, slice_get, Some}
use Rattle.fleet_base.specs.declared.geometry.Visit.{Visit}
use Rattle.fleet_base.specs.declared.order.Pair.{Pair}
use Rattle.fleet_base.specs.declared.order.PairId.{PairId}
use Rattle.fleet_base.specs.declared.order.Side.{Side}
use Rattle.fleet_base.specs.declared.order.Side.TheVariants.{Lower, Higher}
use Rattle.fleet_base.specs.Order.{Graph, IsCycle, IsSorted, other_side}
use Rattle.fleet_base.specs.State.{FleetState}
use Rattle.fleet_base.specs.Schedule.{IsLeastSchedule, IsCost, ObeysSide, end_sum_of}
use Rattle.cert_tree.specs.declared.node.CertPath.{CertPath}
use Rattle.cert_tree.specs.declared.node.Node.{Node}
use Rattle.cert_tree.specs.declared.node.Node.TheVariants.{Branch, Force, Cyclic, Bound, OpenLeaf}
use Rattle.cert_tree.specs.Decisions.{Decision, order_on, IsFree}
use Rattle.cert_tree.specs.Paths.{ArePaths, total_length}

-- a tree of nodes
pub data Tree : Type 0 where
  Fork : (pair : PairId) (lower higher : Tree) → Tree
  Forced : (pair : PairId) (side : Side) (cycle : List PairId) (rest : Tree) → Tree
  Refuted : (cycle : List PairId) → Tree
  Bounded : (paths : List CertPath) → Tree
  Left : (least : ℕ) → Tree

-- its nodes in preorder
abbrev pub nodes_of : Tree → List Node
nodes_of (Fork q lower higher) = Branch q ∷ (nodes_of lower ++ nodes_of higher)
nodes_of (Forced q side cycle rest) = Force q side cycle ∷ nodes_of rest
nodes_of (Refuted cycle) = Cyclic cycle ∷ []
nodes_of (Bounded paths) = Bound paths ∷ []
nodes_of (Left least) = OpenLeaf least ∷ []

-- a decision of a Branch
abbrev pub branch_to : PairId → Side → Decision
branch_to q side = record { pair = q.0; side = side; branched = true }

-- a decision of a Force
abbrev pub force_to : PairId → Side → Decision
force_to q side = record { pair = q.0; side = side; branched = false }

-- each node of the tree meets a rule, which sees the decisions on the way to it
abbrev pub EachNode : (List Decision → Node → Type 0) → List Decision → Tree → Type 0
EachNode meets way (Fork q lower higher) = meets way (Branch q) × EachNode meets (branch_to q Lower ∷ way) lower × EachNode meets (branch_to q Higher ∷ way) higher
EachNode meets way (Forced q side cycle rest) = meets way (Force q side cycle) × EachNode meets (force_to q side ∷ way) rest
EachNode meets way (Refuted cycle) = meets way (Cyclic cycle)
EachNode meets way (Bounded paths) = meets way (Bound paths)
EachNode meets way (Left least) = meets way (OpenLeaf least)

-- the paths are paths, and last at least so long together
abbrev pub IsBound : Graph → FleetState → List Decision → ℕ → List CertPath → Type 0
IsBound g x way cost paths = ArePaths g x (order_on g x way) paths × (cost ≤ total_length g x (order_on g x way) paths)

-- what a node has to meet in every tree for a cost
abbrev pub IsRight : Graph → FleetState → ℕ → List Decision → Node → Type 0
IsRight g x cost way (Branch q) = IsFree g x way q.0
IsRight g x cost way (Force q side cycle) = IsFree g x way q.0 × IsCycle g (order_on g x (force_to q (other_side side) ∷ way)) cycle
IsRight g x cost way (Cyclic cycle) = IsCycle g (order_on g x way) cycle
IsRight g x cost way (Bound paths) = IsBound g x way cost paths
IsRight g x cost way (OpenLeaf least) = Unit {0}

-- and in an optimal tree: nothing is left open
abbrev pub IsClosing : Node → Type 0
IsClosing (Branch q) = Unit {0}
IsClosing (Force q side cycle) = Unit {0}
IsClosing (Cyclic cycle) = Unit {0}
IsClosing (Bound paths) = Unit {0}
IsClosing (OpenLeaf least) = ⊥

-- the tree shows that no lawful schedule costs less
abbrev pub IsOptimalTree : Graph → FleetState → ℕ → Tree → Type 0
IsOptimalTree g x cost tree = EachNode (λ way node. IsRight g x cost way node × IsClosing node) [] tree

-- how many of its nodes are branches
abbrev pub branch_count : Tree → ℕ
branch_count (Fork q lower higher) = 1 + branch_count lower + branch_count higher
branch_count (Forced q side cycle rest) = branch_count rest
branch_count (Refuted cycle) = 0
branch_count (Bounded paths) = 0
branch_count (Left least) = 0

-- the relaxed costs of its open leaves
abbrev pub left_costs : Tree → List ℕ
left_costs (Fork q lower higher) = left_costs lower ++ left_costs higher
left_costs (Forced q side cycle rest) = left_costs rest
left_costs (Refuted cycle) = []
left_costs (Bounded paths) = []
left_costs (Left least) = least ∷ []

-- the visits can be listed so that each decided edge goes forward
pub record IsAcyclic (g : Graph) (x : FleetState) (way : List Decision) : Type 0 where
  pub list : List Visit
  pub sorted : IsSorted g (order_on g x way) list

-- a search had to branch here: the part decision has no cycle, its relaxed cost is below the cost and no more than what is
-- left, and its least schedule obeys neither edge of the pair
pub record IsNeeded (g : Graph) (x : FleetState) (cost least : ℕ) (way : List Decision) (q : ℕ) : Type 0 where
  pub acyclic : IsAcyclic g x way
  pub ticks : Visit → ℕ
  pub schedule : IsLeastSchedule g x (order_on g x way) ticks
  pub below : end_sum_of g ticks < cost
  pub within : end_sum_of g ticks ≤ least
  pub conflict : (pair : Pair) (side : Side) → slice_get g.pairs q ≡ Some pair → ¬ ObeysSide x ticks pair side

-- what an open leaf has to meet: its number is the relaxed cost, which is below the cost, and some pair is undecided
pub record IsLeftOpen (g : Graph) (x : FleetState) (cost : ℕ) (way : List Decision) (least : ℕ) : Type 0 where
  pub acyclic : IsAcyclic g x way
  pub relaxed : IsCost g x (order_on g x way) least
  pub below : least < cost
  pub pair : ℕ
  pub free : IsFree g x way pair

-- what a node has to meet in a spent tree besides
abbrev pub IsSpent : Graph → FleetState → ℕ → ℕ → List Decision → Node → Type 0
IsSpent g x cost least way (Branch q) = IsNeeded g x cost least way q.0
IsSpent g x cost least way (Force q side cycle) = Unit {0}
IsSpent g x cost least way (Cyclic cycle) = Unit {0}
IsSpent g x cost least way (Bound paths) = Unit {0}
IsSpent g x cost least way (OpenLeaf v) = IsLeftOpen g x cost way v

-- the tree shows how far a search came that could branch so often, and that no lawful schedule costs less than what is left
pub record IsSpentTree (g : Graph) (x : FleetState) (cost least budget : ℕ) (tree : Tree) : Type 0 where
  pub right : EachNode (IsRight g x cost) [] tree
  pub spent : EachNode (IsSpent g x cost least) [] tree
  pub branches : branch_count tree ≡ budget
  pub reached : Contains (left_costs tree) least
  pub least_left : All (λ v. least ≤ v) (left_costs tree)
