-- A list of nodes, read as a tree in preorder: the decisions that lead to each node, and what the nodes say together.
use Rattle.std.specs.Prelude.{ℕ, ◌+◌, List, [], ◌∷◌, take}
use Rattle.fleet_base.specs.declared.order.Side.TheVariants.{Lower, Higher}
use Rattle.cert_tree.specs.declared.node.Node.{Node}
use Rattle.cert_tree.specs.declared.node.Node.TheVariants.{Branch, Force, Cyclic, Bound, OpenLeaf}
use Rattle.cert_tree.specs.Decisions.{Decision}
use Rattle.cert_tree.specs.Trees.{branch_to, force_to}

-- The decisions that lead to each node that is still to come, the next one first.
-- those after a node
abbrev pub ways_after : Node → List (List Decision) → List (List Decision)
ways_after node [] = []
ways_after (Branch q) (way ∷ ways) = (branch_to q Lower ∷ way) ∷ (branch_to q Higher ∷ way) ∷ ways
ways_after (Force q side cycle) (way ∷ ways) = (force_to q side ∷ way) ∷ ways
ways_after (Cyclic cycle) (way ∷ ways) = ways
ways_after (Bound paths) (way ∷ ways) = ways
ways_after (OpenLeaf least) (way ∷ ways) = ways

-- those after these nodes
abbrev pub ways_left : List Node → List (List Decision) → List (List Decision)
ways_left [] ways = ways
ways_left (node ∷ nodes) ways = ways_left nodes (ways_after node ways)

-- those before the node of a number
abbrev pub ways_at : List Node → ℕ → List (List Decision)
ways_at nodes k = ways_left (take k nodes) ([] ∷ [])

-- how many nodes are branches
abbrev pub branches_in : List Node → ℕ
branches_in [] = 0
branches_in (Branch q ∷ nodes) = 1 + branches_in nodes
branches_in (node ∷ nodes) = branches_in nodes

-- the numbers of the open leaves
abbrev pub left_in : List Node → List ℕ
left_in [] = []
left_in (OpenLeaf least ∷ nodes) = least ∷ left_in nodes
left_in (node ∷ nodes) = left_in nodes

-- each node of a list meets the rule, given the ways that are still to be gone, and none comes after the end
abbrev pub EachListed : (List Decision → Node → Type 0) → List Node → List (List Decision) → Type 0
EachListed meets [] ways = Unit {0}
EachListed meets (node ∷ nodes) [] = ⊥
EachListed meets (node ∷ nodes) (way ∷ ways) = meets way node × EachListed meets nodes (ways_after node (way ∷ ways))
