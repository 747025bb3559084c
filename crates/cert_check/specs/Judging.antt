-- What a checker finds as it goes through the nodes.
use Rattle.std.specs.Prelude.{ℕ, ◌≡◌, ◌≢◌, ◌⊎◌, ◌+◌, ◌<◌, ◌≤◌, List, [], ◌∷◌, Contains, All, min, slice_get, Option, Some, None}
use Rattle.fleet_base.specs.declared.order.PairId.{PairId}
use Rattle.fleet_base.specs.declared.order.Side.{Side}
use Rattle.fleet_base.specs.Order.{Graph}
use Rattle.fleet_base.specs.State.{FleetState}
use Rattle.cert_tree.specs.declared.node.CertPath.{CertPath}
use Rattle.cert_tree.specs.declared.node.Node.{Node}
use Rattle.cert_tree.specs.declared.node.Node.TheVariants.{Branch, OpenLeaf}
use Rattle.cert_check.specs.declared.judge.Kind.{Kind}
use Rattle.cert_check.specs.declared.judge.Kind.TheVariants as kind
use Rattle.cert_check.specs.declared.verdict.NoWhy.{NoWhy}
use Rattle.cert_check.specs.declared.verdict.NoWhy.TheVariants.{Leaf, Needed, Group}
use Rattle.cert_tree.specs.Decisions.{Decision, side_on}
use Rattle.cert_check.specs.Sides.{decided}
use Rattle.cert_tree.specs.Trees.{IsRight, IsClosing, IsSpent, IsNeeded, IsLeftOpen}
use Rattle.cert_tree.specs.GroupRules.{IsNewGroup, HasGroupLeft, KeepsGroups}
use Rattle.cert_check.specs.Verdicts.{rank_of, IsFault, IsOptimalFault, IsSpentFault, IsSpentWholeFault, IsNoFault, Fits, IsFirstFault}
use Rattle.cert_tree.specs.Preorder.{ways_left, branches_in, left_in, EachListed}

-- the path at a place is that of the robot and is taken, or it is none of this robot
abbrev pub TakesPath : List CertPath → ℕ → ℕ → List PairId → ℕ → Type 0
TakesPath paths place robot pairs after = ((p : CertPath) × (slice_get paths place ≡ Some p) × (p.robot ≡ robot) × (pairs ≡ p.pairs) × (after ≡ place + 1)) ⊎ (((p : CertPath) → slice_get paths place ≡ Some p → p.robot ≢ robot) × (pairs ≡ []) × (after ≡ place))

-- what the words say of a node in a spent tree, groups apart
abbrev pub IsFaultAlone : Graph → FleetState → ℕ → ℕ → List Decision → Node → NoWhy → Type 0
IsFaultAlone g x cost least way (OpenLeaf v) Leaf = ¬ IsLeftOpen g x cost way v
IsFaultAlone g x cost least way (Branch q) Needed = ¬ IsNeeded g x cost least way q.0
IsFaultAlone g x cost least way node why = IsFault g x cost way node why

-- what they say of its groups
abbrev pub IsGroupFault : Graph → FleetState → List Decision → Node → NoWhy → Type 0
IsGroupFault g x way (OpenLeaf v) Leaf = ¬ HasGroupLeft g x way
IsGroupFault g x way (Branch q) Group = ¬ IsNewGroup g x way q.0
IsGroupFault g x way node why = ⊥

-- what a node must meet in a tree of the kind, groups apart
abbrev pub MeetsAlone : Graph → FleetState → ℕ → Kind → List Decision → Node → Type 0
MeetsAlone g x cost kind.Optimal way node = IsRight g x cost way node × IsClosing node
MeetsAlone g x cost (kind.Spent least) way node = IsRight g x cost way node × IsSpent g x cost least way node

-- what the words say of it there
abbrev pub FailsAlone : Graph → FleetState → ℕ → Kind → List Decision → Node → NoWhy → Type 0
FailsAlone g x cost kind.Optimal way node why = IsOptimalFault g x cost way node why
FailsAlone g x cost (kind.Spent least) way node why = IsFaultAlone g x cost least way node why

-- what a node must meet in a tree of the kind
abbrev pub MeetsAs : Graph → FleetState → ℕ → Kind → List Decision → Node → Type 0
MeetsAs g x cost kind.Optimal way node = IsRight g x cost way node × IsClosing node
MeetsAs g x cost (kind.Spent least) way node = (IsRight g x cost way node × IsSpent g x cost least way node) × KeepsGroups g x way node

-- what the words say of a node there
abbrev pub FailsAs : Graph → FleetState → ℕ → Kind → List Decision → Node → NoWhy → Type 0
FailsAs g x cost kind.Optimal way node why = IsOptimalFault g x cost way node why
FailsAs g x cost (kind.Spent least) way node why = IsSpentFault g x cost least way node why

-- and of the whole tree; only a spent tree has a budget
abbrev pub WholeFailsAs : Kind → ℕ → List Node → NoWhy → Type 0
WholeFailsAs kind.Optimal budget nodes why = IsNoFault why
WholeFailsAs (kind.Spent least) budget nodes why = IsSpentWholeFault least budget nodes why

-- a node meets what it must, or this is the first word that fits
abbrev pub Judges : Type 0 → (NoWhy → Type 0) → Option NoWhy → Type 0
Judges meets fault None = meets
Judges meets fault (Some why) = fault why × ((w : NoWhy) → rank_of w < rank_of why → ¬ fault w)

-- the decisions give these sides
abbrev pub Gives : List Decision → List (Option Side) → Type 0
Gives way sides = (q : ℕ) → decided sides q ≡ side_on way q

-- so a node is judged groups apart, whatever the decisions are that give the sides
abbrev pub IsJudged : Graph → FleetState → ℕ → Kind → List (Option Side) → Node → Option NoWhy → Type 0
IsJudged g x cost kind sides node found = (way : List Decision) → Gives way sides → Judges (MeetsAlone g x cost kind way node) (FailsAlone g x cost kind way node) found

-- its groups are as they must be, or this word fits
abbrev pub JudgesGroup : Graph → FleetState → List Decision → Node → Option NoWhy → Type 0
JudgesGroup g x way node None = KeepsGroups g x way node
JudgesGroup g x way node (Some why) = IsGroupFault g x way node why

-- all nodes are right, and the last one ends the tree
abbrev pub IsWhole : Graph → FleetState → ℕ → Kind → List Node → Type 0
IsWhole g x cost kind nodes = EachListed (MeetsAs g x cost kind) nodes ([] ∷ []) × (ways_left nodes ([] ∷ []) ≡ [])

-- a word at a node is the first that fits, whatever the budget is
abbrev pub IsFirstAs : Graph → FleetState → ℕ → Kind → List Node → ℕ × NoWhy → Type 0
IsFirstAs g x cost kind nodes found = (budget : ℕ) → IsFirstFault (Fits (FailsAs g x cost kind) (WholeFailsAs kind budget nodes) nodes) found.0 found.1

-- a whole spent tree has as many branches as its budget, and the least number of its open leaves is this one
abbrev pub IsWholeRight : ℕ → ℕ → List Node → Type 0
IsWholeRight least budget nodes = (branches_in nodes ≡ budget) × Contains (left_in nodes) least × All (λ v. least ≤ v) (left_in nodes)

-- the smaller one of a number and the least so far
abbrev pub lower_of : Option ℕ → ℕ → ℕ
lower_of None v = v
lower_of (Some n) v = min n v
