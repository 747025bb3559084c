-- The verdict on a list of nodes: it is a tree of its kind, or its first node that fails, with the first word that fits there.
use Rattle.std.specs.Prelude.{ℕ, ◌≡◌, ◌≢◌, ◌⊎◌, ◌<◌, ◌≤◌, List, [], ◌∷◌, length, slice_get, Some, Contains, All}
use Rattle.fleet_base.specs.Order.{Graph, IsCycle, other_side}
use Rattle.fleet_base.specs.State.{FleetState}
use Rattle.cert_tree.specs.declared.node.Node.{Node}
use Rattle.cert_tree.specs.declared.node.Node.TheVariants.{Branch, Force, Cyclic, Bound, OpenLeaf}
use Rattle.cert_tree.specs.Decisions.{Decision, order_on, IsFree}
use Rattle.cert_tree.specs.Preorder.{ways_at, branches_in, left_in}
use Rattle.cert_tree.specs.Paths.{ArePaths, total_length}
use Rattle.cert_tree.specs.Trees.{Tree, nodes_of, force_to, IsOptimalTree, IsSpentTree, IsNeeded, IsLeftOpen}
use Rattle.cert_tree.specs.GroupRules.{IsNewGroup, HasGroupLeft, IsGroupedTree}
use Rattle.cert_check.specs.declared.verdict.NoWhy.{NoWhy}
use Rattle.cert_check.specs.declared.verdict.NoWhy.TheVariants.{Shape, Pair, Cycle, Path, Sum, Leaf, Needed, Group, Count, Least, Order, Cost}
use Rattle.cert_check.specs.declared.verdict.Verdict.{Verdict}
use Rattle.cert_check.specs.declared.verdict.Verdict.TheVariants.{Yes, No}

-- what the words say of a node that a tree for a cost must not have
abbrev pub IsFault : Graph → FleetState → ℕ → List Decision → Node → NoWhy → Type 0
IsFault g x cost way (Branch q) Pair = ¬ IsFree g x way q.0
IsFault g x cost way (Force q side cycle) Pair = ¬ IsFree g x way q.0
IsFault g x cost way (Force q side cycle) Cycle = ¬ IsCycle g (order_on g x (force_to q (other_side side) ∷ way)) cycle
IsFault g x cost way (Cyclic cycle) Cycle = ¬ IsCycle g (order_on g x way) cycle
IsFault g x cost way (Bound paths) Path = ¬ ArePaths g x (order_on g x way) paths
IsFault g x cost way (Bound paths) Sum = total_length g x (order_on g x way) paths < cost
IsFault g x cost way node why = ⊥

-- and in an optimal tree
abbrev pub IsOptimalFault : Graph → FleetState → ℕ → List Decision → Node → NoWhy → Type 0
IsOptimalFault g x cost way (OpenLeaf least) Leaf = Unit {0}
IsOptimalFault g x cost way node why = IsFault g x cost way node why

-- in a spent tree
abbrev pub IsSpentFault : Graph → FleetState → ℕ → ℕ → List Decision → Node → NoWhy → Type 0
IsSpentFault g x cost least way (OpenLeaf v) Leaf = (¬ IsLeftOpen g x cost way v) ⊎ (¬ HasGroupLeft g x way)
IsSpentFault g x cost least way (Branch q) Needed = ¬ IsNeeded g x cost least way q.0
IsSpentFault g x cost least way (Branch q) Group = ¬ IsNewGroup g x way q.0
IsSpentFault g x cost least way node why = IsFault g x cost way node why

-- what the words say of a whole spent tree
abbrev pub IsSpentWholeFault : ℕ → ℕ → List Node → NoWhy → Type 0
IsSpentWholeFault least budget nodes Count = (branches_in nodes ≢ budget) ⊎ (left_in nodes ≡ [])
IsSpentWholeFault least budget nodes Least = ¬ (Contains (left_in nodes) least × All (λ v. least ≤ v) (left_in nodes))
IsSpentWholeFault least budget nodes why = ⊥

-- an optimal tree has no rule for the whole but its shape
abbrev pub IsNoFault : NoWhy → Type 0
IsNoFault why = ⊥

-- the word fits at the node of a number; the number of nodes stands for the whole tree
pub data Fits (rule : List Decision → Node → NoWhy → Type 0) (whole : NoWhy → Type 0) (nodes : List Node) : ℕ → NoWhy → Type 0 where
  after_the_end : (k : ℕ) → k < length nodes → ways_at nodes k ≡ [] → Fits rule whole nodes k Shape
  too_early : ways_at nodes (length nodes) ≢ [] → Fits rule whole nodes (length nodes) Shape
  at_node : (k : ℕ) (node : Node) (way : List Decision) (ways : List (List Decision)) (why : NoWhy)
      → slice_get nodes k ≡ Some node → ways_at nodes k ≡ way ∷ ways → rule way node why → Fits rule whole nodes k why
  in_whole : (why : NoWhy) → whole why → Fits rule whole nodes (length nodes) why

-- the order of the words
abbrev pub rank_of : NoWhy → ℕ
rank_of Shape = 0
rank_of Pair = 1
rank_of Cycle = 2
rank_of Path = 3
rank_of Sum = 4
rank_of Leaf = 5
rank_of Needed = 6
rank_of Group = 7
rank_of Count = 8
rank_of Least = 9
rank_of Order = 10
rank_of Cost = 11

-- one node and word come before others: by the node, then by the word
abbrev pub IsEarlier : ℕ → NoWhy → ℕ → NoWhy → Type 0
IsEarlier j w k why = (j < k) ⊎ ((j ≡ k) × (rank_of w < rank_of why))

-- the word fits at this node, and no word does earlier
pub record IsFirstFault (fits : ℕ → NoWhy → Type 0) (k : ℕ) (why : NoWhy) : Type 0 where
  pub here : fits k why
  pub first : (j : ℕ) (w : NoWhy) → IsEarlier j w k why → ¬ fits j w

-- what is to be said of a list of nodes as an optimal tree for a cost
abbrev pub OptimalVerdict : Graph → FleetState → ℕ → List Node → Verdict → Type 0
OptimalVerdict g x cost nodes Yes = (tree : Tree) × (nodes ≡ nodes_of tree) × IsOptimalTree g x cost tree
OptimalVerdict g x cost nodes (No k why) = IsFirstFault (Fits (IsOptimalFault g x cost) IsNoFault nodes) k why

-- as a spent tree
abbrev pub SpentVerdict : Graph → FleetState → ℕ → ℕ → ℕ → List Node → Verdict → Type 0
SpentVerdict g x cost least budget nodes Yes = (tree : Tree) × (nodes ≡ nodes_of tree) × IsSpentTree g x cost least budget tree × IsGroupedTree g x tree
SpentVerdict g x cost least budget nodes (No k why) = IsFirstFault (Fits (IsSpentFault g x cost least) (IsSpentWholeFault least budget nodes) nodes) k why
