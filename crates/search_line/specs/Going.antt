-- How a search goes from one node to another: up to a node that both lie below, and down again.
use Rattle.std.specs.Prelude.{ℕ, ◌≡◌, ◌<◌, ◌≤◌, List, [], ◌∷◌, length, slice_get, Option, Some, None}
use Rattle.fleet_base.specs.Order.{Graph, IsCyclic}
use Rattle.fleet_base.specs.State.{FleetState}
use Rattle.longest_path.specs.declared.decision.Decision.{Decision as Given}
use Rattle.cert_tree.specs.Decisions.{Decision, order_on}
use Rattle.order_choice.specs.declared.made.Forcing.{Forcing}
use Rattle.order_choice.specs.declared.made.MadeNode.{MadeNode}
use Rattle.order_choice.specs.Searching.{AreForced, IsMadeRight, forced_on}
use Rattle.search_nodes.specs.Making.{given_on}
use Rattle.search_line.specs.declared.kept.Kept.{Kept}
use Rattle.search_line.specs.declared.kept.Origin.{Origin}
use Rattle.search_line.specs.Lines.{Numbered, IsAt, HasCost}
use Rattle.search_line.specs.Nodes.{IsWayTo}

-- the decisions in force are those of the node with this number: those of its way and those that were forced in it
pub record IsInForce (line : List Numbered) (number : ℕ) (decisions : List Given) : Type 0 where
  pub node : MadeNode
  pub way : List Decision
  pub there : IsAt line number node way
  pub same : decisions ≡ given_on (forced_on node.forced way)

-- nothing is decided, or a node's decisions are in force
abbrev pub StandsAt : List Numbered → Option ℕ → List Given → Type 0
StandsAt line None decisions = decisions ≡ []
StandsAt line (Some number) decisions = IsInForce line number decisions

-- a way leads to each node
abbrev pub EachHasWay : List Kept → Type 0
EachHasWay nodes = (number : ℕ) → number < length nodes → (way : List Decision) × IsWayTo nodes number way

-- a node comes from this branch
pub record IsFrom (nodes : List Kept) (number : ℕ) (origin : Origin) : Type 0 where
  pub kept : Kept
  pub there : slice_get nodes number ≡ Some kept
  pub from : kept.origin ≡ Some origin

-- these are the nodes from one up to another one, without it: each is a child of the next
abbrev pub LeadUp : List Kept → ℕ → List ℕ → ℕ → Type 0
LeadUp nodes number [] above = number ≡ above
LeadUp nodes number (k ∷ path) above = (number ≡ k) × (origin : Origin) × IsFrom nodes number origin × LeadUp nodes origin.parent path above

-- a node lies below another one, or is it
abbrev pub LiesBelow : List Kept → ℕ → ℕ → Type 0
LiesBelow nodes number above = (path : List ℕ) × LeadUp nodes number path above

-- the decisions in force are those of a node
pub record AreThoseOf (nodes : List Kept) (number : ℕ) (decisions : List Given) : Type 0 where
  pub kept : Kept
  pub way : List Decision
  pub there : slice_get nodes number ≡ Some kept
  pub leads : IsWayTo nodes number way
  pub same : decisions ≡ given_on (forced_on kept.node.forced way)

-- nothing is decided, or the decisions in force are those of a node
abbrev pub BeginsAt : List Kept → Option ℕ → List Given → Type 0
BeginsAt nodes None decisions = decisions ≡ []
BeginsAt nodes (Some number) decisions = AreThoseOf nodes number decisions

-- each node was made right
abbrev pub AreMadeRight : Graph → FleetState → List Kept → Type 0
AreMadeRight g x nodes = (number : ℕ) (kept : Kept) (way : List Decision) → slice_get nodes number ≡ Some kept → IsWayTo nodes number way → IsMadeRight g x way kept.node

-- a node has no cycle
pub record HasNoCycle (nodes : List Kept) (number : ℕ) : Type 0 where
  pub kept : Kept
  pub there : slice_get nodes number ≡ Some kept
  pub stand : HasCost kept.node.stand

-- pairs can be forced one after another: each is free then, and all decisions together have no cycle
pub record CanForce (g : Graph) (x : FleetState) (decisions : List Given) (forced : List Forcing) : Type 0 where
  pub way : List Decision
  pub given : decisions ≡ given_on way
  pub free : AreForced g x forced way
  pub acyclic : IsCyclic g (order_on g x (forced_on forced way)) → ⊥

-- the nodes on a path, the last one first, lead down from the node whose decisions are in force to one without a cycle
pub record CanGoDown (nodes : List Kept) (path : List ℕ) (decisions : List Given) : Type 0 where
  pub above : ℕ
  pub below : ℕ
  pub force : AreThoseOf nodes above decisions
  pub path_up : LeadUp nodes below path above
  pub stand : HasNoCycle nodes below
