-- How far a certificate is written of the nodes that a search made.
use Rattle.std.specs.Prelude.{ℕ, suc, ◌≡◌, ◌*◌, ◌<◌, ◌≤◌, List, [], ◌∷◌, ◌++◌, drop, length}
use Rattle.fleet_base.specs.declared.order.PairId.{PairId}
use Rattle.fleet_base.specs.Order.{Graph}
use Rattle.fleet_base.specs.State.{FleetState}
use Rattle.cert_tree.specs.declared.node.CertPath.{CertPath}
use Rattle.cert_tree.specs.declared.node.Node.{Node}
use Rattle.cert_tree.specs.declared.node.Node.TheVariants.{Branch, Cyclic, Bound, OpenLeaf}
use Rattle.cert_tree.specs.CertText.{IsWritten}
use Rattle.fleet_base.specs.Schedule.{IsCost}
use Rattle.cert_tree.specs.Decisions.{Decision, order_on}
use Rattle.cert_tree.specs.Trees.{IsBound}
use Rattle.order_choice.specs.declared.made.MadeNode.{MadeNode}
use Rattle.order_choice.specs.declared.made.Stand.{Stand}
use Rattle.order_choice.specs.declared.made.Stand.TheVariants.{Round, Waiting, Expanded}
use Rattle.order_choice.specs.Searching.{forced_on, ways_past}
use Rattle.order_choice.specs.Writing.{behind, forced_nodes, with_children, IsWrittenOf}
use Rattle.search_nodes.specs.Making.{Making}
use Rattle.search_line.specs.Lines.{Numbered, nodes_on, first_number, IsAt}
use Rattle.bound_search.specs.declared.writing.Walk.{Walk}

-- the node that is written of how a node stands, this way leading to it, and how many trees are left out behind it: those
-- below an expanded node of which no cheaper order is to be hoped for
pub data IsWrittenAs (g : Graph) (x : FleetState) (best : ℕ) (way : List Decision) : Stand → Node → ℕ → Type 0 where
  round : (cycle : List PairId) → IsWrittenAs g x best way (Round cycle) (Cyclic cycle) 0
  left_open : (cost : ℕ) → cost < best → IsWrittenAs g x best way (Waiting cost) (OpenLeaf cost) 0
  branched : (cost : ℕ) (q : PairId) → cost < best → IsWrittenAs g x best way (Expanded cost q) (Branch q) 0
  bound : (cost : ℕ) (paths : List CertPath) → best ≤ cost → IsBound g x way best paths → IsWritten (Bound paths) → IsWrittenAs g x best way (Waiting cost) (Bound paths) 0
  cut : (cost : ℕ) (q : PairId) (paths : List CertPath) → best ≤ cost → IsBound g x way best paths → IsWritten (Bound paths) → IsWrittenAs g x best way (Expanded cost q) (Bound paths) 2

-- a Bound of the node with this number, for each cost that its relaxed cost reaches
pub record IsBoundAt (m : Making) (line : List Numbered) (number : ℕ) (node : Node) : Type 0 where
  pub paths : List CertPath
  pub is : node ≡ Bound paths
  pub written : IsWritten (Bound paths)
  pub bound : (made : MadeNode) (way : List Decision) (cost : ℕ) → IsAt line number made way → IsCost m.graph m.state (order_on m.graph m.state (forced_on made.forced way)) cost → m.cost ≤ cost → IsBound m.graph m.state (forced_on made.forced way) m.cost paths

-- what comes of a node, this way leading to it: where trees are left out before it, it is left out as one of them, and its
-- children are left out too; else it is written, its Force nodes first
pub data IsTaken (m : Making) (node : MadeNode) (way : List Decision) (old new : List Node) : ℕ → ℕ → Type 0 where
  left_out : (k : ℕ) → new ≡ old → IsTaken m node way old new (suc k) (with_children node.stand k)
  written : (stood : Node) (k : ℕ) → IsWrittenAs m.graph m.state m.cost (forced_on node.forced way) node.stand stood k → new ≡ old ++ forced_nodes node.forced ++ stood ∷ [] → IsTaken m node way old new 0 k

-- the nodes are written of a line, whatever is left open in it and wherever it branches
abbrev pub IsCertOf : Making → List MadeNode → List (List Decision) → List Node → Type 0
IsCertOf m line ways nodes = IsWrittenOf m.graph m.state m.cost (λ cost. Unit {0}) (λ cost. Unit {0}) line ways nodes

-- A certificate is written as far as to some nodes that are still to come: where more nodes are written of these, without
-- the trees that are left out, all are written of the line.
pub record IsWalked (m : Making) (line : List Numbered) (walk : Walk) : Type 0 where
  pub front : List Numbered
  pub back : List Numbered
  pub place : line ≡ front ++ back
  pub next : walk.next ≡ first_number back
  pub to_come : walk.to_come ≡ length back
  pub few : walk.left_out ≤ 2 * length front
  pub goes_on : (more : List Node) → IsCertOf m (behind walk.left_out (nodes_on back)) (drop walk.left_out (ways_past (nodes_on front) ([] ∷ []))) more → IsCertOf m (nodes_on line) ([] ∷ []) (walk.cert ++ more)
