-- The rule on groups that a spent tree keeps: it branches once a group on each way, and an open leaf leaves a group.
use Rattle.std.specs.Prelude.{ℕ, ◌≡◌, List, [], ◌∷◌, None, Contains, if◌then◌else◌}
use Rattle.fleet_base.specs.Order.{Graph}
use Rattle.fleet_base.specs.State.{FleetState}
use Rattle.cert_tree.specs.declared.node.Node.{Node}
use Rattle.cert_tree.specs.declared.node.Node.TheVariants.{Branch, Force, Cyclic, Bound, OpenLeaf}
use Rattle.cert_tree.specs.Decisions.{Decision, side_on}
use Rattle.cert_tree.specs.Trees.{Tree, EachNode}
use Rattle.fleet_base.specs.Groups.{AreGrouped, IsInOpenGroup}

-- the pairs that were branched on, the last one first
abbrev pub branch_pairs : List Decision → List ℕ
branch_pairs [] = []
branch_pairs (d ∷ ds) = if d.branched then d.pair ∷ branch_pairs ds else branch_pairs ds

-- a Branch pair lies in an open group, and in another one than each Branch pair above
abbrev pub IsNewGroup : Graph → FleetState → List Decision → ℕ → Type 0
IsNewGroup g x way q = IsInOpenGroup g x q × ((r : ℕ) → Contains (branch_pairs way) r → ¬ AreGrouped g q r)

-- some open group has no decided pair
abbrev pub HasGroupLeft : Graph → FleetState → List Decision → Type 0
HasGroupLeft g x way = (q : ℕ) × IsInOpenGroup g x q × ((r : ℕ) → AreGrouped g q r → side_on way r ≡ None)

-- what a node has to meet by the rule
abbrev pub KeepsGroups : Graph → FleetState → List Decision → Node → Type 0
KeepsGroups g x way (Branch q) = IsNewGroup g x way q.0
KeepsGroups g x way (Force q side cycle) = Unit {0}
KeepsGroups g x way (Cyclic cycle) = Unit {0}
KeepsGroups g x way (Bound paths) = Unit {0}
KeepsGroups g x way (OpenLeaf least) = HasGroupLeft g x way

-- the tree keeps it at each node
abbrev pub IsGroupedTree : Graph → FleetState → Tree → Type 0
IsGroupedTree g x tree = EachNode (KeepsGroups g x) [] tree
