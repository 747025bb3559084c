-- The certificate that is written of the nodes that a search made.
use Rattle.std.specs.Prelude.{ℕ, ◌+◌, ◌<◌, ◌≤◌, zero, suc, List, [], ◌∷◌, ◌++◌}
use Rattle.fleet_base.specs.declared.order.PairId.{PairId}
use Rattle.fleet_base.specs.declared.order.Side.TheVariants.{Lower, Higher}
use Rattle.fleet_base.specs.Order.{Graph}
use Rattle.fleet_base.specs.State.{FleetState}
use Rattle.cert_tree.specs.declared.node.CertPath.{CertPath}
use Rattle.cert_tree.specs.declared.node.Node.{Node}
use Rattle.cert_tree.specs.declared.node.Node.TheVariants.{Branch, Force, Cyclic, Bound, OpenLeaf}
use Rattle.cert_tree.specs.CertText.{IsWritten}
use Rattle.cert_tree.specs.Decisions.{Decision}
use Rattle.cert_tree.specs.Trees.{branch_to, IsBound}
use Rattle.order_choice.specs.declared.made.Forcing.{Forcing}
use Rattle.order_choice.specs.declared.made.Stand.{Stand}
use Rattle.order_choice.specs.declared.made.Stand.TheVariants.{Round, Waiting, Expanded}
use Rattle.order_choice.specs.declared.made.MadeNode.{MadeNode}
use Rattle.order_choice.specs.Searching.{forced_on}

-- so many trees, and those of a node's children
abbrev pub with_children : Stand → ℕ → ℕ
with_children (Round cycle) k = k
with_children (Waiting cost) k = k
with_children (Expanded cost q) k = suc (suc k)

-- the line behind its first so many trees
abbrev pub behind : ℕ → List MadeNode → List MadeNode
behind zero line = line
behind (suc k) [] = []
behind (suc k) (n ∷ line) = behind (with_children n.stand k) line

-- a Force node for each forcing
abbrev pub forced_nodes : List Forcing → List Node
forced_nodes [] = []
forced_nodes (f ∷ fs) = Force f.pair f.side (f.mate ∷ f.pair ∷ []) ∷ forced_nodes fs

-- a path in front of others, if it is not empty
abbrev pub add_path : ℕ → List PairId → List CertPath → List CertPath
add_path i [] rest = rest
add_path i (q ∷ qs) rest = record { robot = i; pairs = q ∷ qs } ∷ rest

-- the paths of so many robots, from one on, that are not empty
abbrev pub paths_from : (ℕ → List PairId) → ℕ → ℕ → List CertPath
paths_from pairs_for i zero = []
paths_from pairs_for i (suc n) = add_path i (pairs_for i) (paths_from pairs_for (i + 1) n)

-- These nodes are written of a line, the ways to its nodes being these: of each its Force nodes, and then what it stands as.
-- A node of which no cheaper order is to be hoped for is a Bound, and its tree is left out.
pub data IsWrittenOf (g : Graph) (x : FleetState) (best : ℕ) (Left Branched : ℕ → Type 0) : List MadeNode → List (List Decision) → List Node → Type 0 where
  ended : IsWrittenOf g x best Left Branched [] [] []
  as_cyclic : (forced : List Forcing) (cycle : List PairId) (line : List MadeNode) (way : List Decision) (ways : List (List Decision)) (nodes : List Node)
      → IsWrittenOf g x best Left Branched line ways nodes
      → IsWrittenOf g x best Left Branched (record { forced = forced; stand = Round cycle } ∷ line) (way ∷ ways) (forced_nodes forced ++ Cyclic cycle ∷ nodes)
  as_open : (forced : List Forcing) (cost : ℕ) (line : List MadeNode) (way : List Decision) (ways : List (List Decision)) (nodes : List Node) → cost < best → Left cost
      → IsWrittenOf g x best Left Branched line ways nodes
      → IsWrittenOf g x best Left Branched (record { forced = forced; stand = Waiting cost } ∷ line) (way ∷ ways) (forced_nodes forced ++ OpenLeaf cost ∷ nodes)
  as_bound : (forced : List Forcing) (cost : ℕ) (line : List MadeNode) (way : List Decision) (ways : List (List Decision)) (paths : List CertPath) (nodes : List Node) → best ≤ cost → IsBound g x (forced_on forced way) best paths → IsWritten (Bound paths)
      → IsWrittenOf g x best Left Branched line ways nodes
      → IsWrittenOf g x best Left Branched (record { forced = forced; stand = Waiting cost } ∷ line) (way ∷ ways) (forced_nodes forced ++ Bound paths ∷ nodes)
  as_cut : (forced : List Forcing) (cost : ℕ) (q : PairId) (line : List MadeNode) (way : List Decision) (ways : List (List Decision)) (paths : List CertPath) (nodes : List Node) → best ≤ cost → IsBound g x (forced_on forced way) best paths → IsWritten (Bound paths)
      → IsWrittenOf g x best Left Branched (behind 2 line) ways nodes
      → IsWrittenOf g x best Left Branched (record { forced = forced; stand = Expanded cost q } ∷ line) (way ∷ ways) (forced_nodes forced ++ Bound paths ∷ nodes)
  as_branch : (forced : List Forcing) (cost : ℕ) (q : PairId) (line : List MadeNode) (way : List Decision) (ways : List (List Decision)) (nodes : List Node) → cost < best → Branched cost
      → IsWrittenOf g x best Left Branched line ((branch_to q Lower ∷ forced_on forced way) ∷ (branch_to q Higher ∷ forced_on forced way) ∷ ways) nodes
      → IsWrittenOf g x best Left Branched (record { forced = forced; stand = Expanded cost q } ∷ line) (way ∷ ways) (forced_nodes forced ++ Branch q ∷ nodes)
