-- The nodes that a search made, each with its number, in preorder: behind a node that was expanded stand the trees of its
-- two children.
use Rattle.std.specs.Prelude.{ℕ, ◌≡◌, List, [], ◌∷◌, ◌++◌, map, Option, Some, None}
use Rattle.cert_tree.specs.Decisions.{Decision}
use Rattle.order_choice.specs.declared.made.MadeNode.{MadeNode}
use Rattle.order_choice.specs.declared.made.Stand.{Stand}
use Rattle.order_choice.specs.declared.made.Stand.TheVariants.{Round, Waiting, Expanded}
use Rattle.order_choice.specs.Searching.{ways_past}

-- a node with its number: how many were made before it
pub record Numbered : Type 0 where
  pub number : ℕ
  pub node : MadeNode

-- the nodes without their numbers
abbrev pub nodes_on : List Numbered → List MadeNode
nodes_on line = map (λ n. n.node) line

-- the number of the first node, if there is one
abbrev pub first_number : List Numbered → Option ℕ
first_number [] = None
first_number (n ∷ line) = Some n.number

-- a node on the line has this number
pub record IsOn (line : List Numbered) (number : ℕ) : Type 0 where
  pub front : List Numbered
  pub node : MadeNode
  pub back : List Numbered
  pub place : line ≡ front ++ record { number = number; node = node } ∷ back

-- a node has this number on the line, and this way leads to it
pub record IsAt (line : List Numbered) (number : ℕ) (node : MadeNode) (way : List Decision) : Type 0 where
  pub front : List Numbered
  pub back : List Numbered
  pub more : List (List Decision)
  pub place : line ≡ front ++ record { number = number; node = node } ∷ back
  pub ways : ways_past (nodes_on front) ([] ∷ []) ≡ way ∷ more

-- the node with this number waits with this relaxed cost
pub record IsWaiting (line : List Numbered) (number cost : ℕ) : Type 0 where
  pub node : MadeNode
  pub way : List Decision
  pub there : IsAt line number node way
  pub stand : node.stand ≡ Waiting cost

-- a node without a cycle has a relaxed cost
abbrev pub HasCost : Stand → Type 0
HasCost (Round cycle) = ⊥
HasCost (Waiting cost) = Unit {0}
HasCost (Expanded cost q) = Unit {0}

-- the node with this number has no cycle
pub record HasCostAt (line : List Numbered) (number : ℕ) : Type 0 where
  pub node : MadeNode
  pub way : List Decision
  pub there : IsAt line number node way
  pub stand : HasCost node.stand
