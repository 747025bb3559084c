-- The nodes of a search as they are kept: in the order in which they were made.
use Rattle.std.specs.Prelude.{ℕ, ◌≡◌, ◌+◌, ◌<◌, zero, suc, List, [], ◌∷◌, ◌++◌, length, slice_get, slice_set, Option, Some, None}
use Rattle.fleet_base.specs.declared.order.PairId.{PairId}
use Rattle.fleet_base.specs.declared.order.Side.{Side}
use Rattle.fleet_base.specs.declared.order.Side.TheVariants.{Lower, Higher}
use Rattle.cert_tree.specs.Decisions.{Decision}
use Rattle.cert_tree.specs.Trees.{branch_to}
use Rattle.order_choice.specs.declared.made.MadeNode.{MadeNode}
use Rattle.order_choice.specs.declared.made.Stand.TheVariants.{Expanded}
use Rattle.order_choice.specs.Searching.{ways_beyond, forced_on}
use Rattle.search_line.specs.declared.kept.Origin.{Origin}
use Rattle.search_line.specs.declared.kept.Kept.{Kept}
use Rattle.search_line.specs.Lines.{Numbered}

-- a node, if there is one, and those behind it
abbrev pub with_rest : ℕ → (Option ℕ → List Numbered) → Option Kept → List Numbered
with_rest number rest None = []
with_rest number rest (Some kept) = record { number = number; node = kept.node } ∷ rest kept.next

-- the nodes from one on, at most so many, each followed by the one behind it
abbrev pub linked_from : List Kept → ℕ → Option ℕ → List Numbered
linked_from nodes zero at = []
linked_from nodes (suc k) None = []
linked_from nodes (suc k) (Some number) = with_rest number (linked_from nodes k) (slice_get nodes number)

-- a node is kept under its number
pub record IsKept (nodes : List Kept) (n : Numbered) : Type 0 where
  pub kept : Kept
  pub there : slice_get nodes n.number ≡ Some kept
  pub node : kept.node ≡ n.node

-- the first node of a line has this number, and each leads to the one behind it
abbrev pub AreLinked : List Kept → Option ℕ → List Numbered → Type 0
AreLinked nodes at [] = at ≡ None
AreLinked nodes at (n ∷ line) = (at ≡ Some n.number) × (k : IsKept nodes n) × AreLinked nodes k.kept.next line

-- a way leads to a node: none to the root, and to a child the branch that its parent was expanded on, beyond the parent's
-- way and what was forced in the parent
pub data IsWayTo (nodes : List Kept) : ℕ → List Decision → Type 0 where
  to_root : (root : Kept) → slice_get nodes 0 ≡ Some root → root.origin ≡ None → IsWayTo nodes 0 []
  to_child : (number cost : ℕ) (kept parent : Kept) (origin : Origin) (way : List Decision) → slice_get nodes number ≡ Some kept → kept.origin ≡ Some origin
      → slice_get nodes origin.parent ≡ Some parent → origin.parent < number → parent.node.stand ≡ Expanded cost origin.pair → IsWayTo nodes origin.parent way
      → IsWayTo nodes number (branch_to origin.pair origin.side ∷ forced_on parent.node.forced way)

-- the way to each node is that which stands on the line
abbrev pub HaveWays : List Kept → List Numbered → List (List Decision) → Type 0
HaveWays nodes [] ways = Unit {0}
HaveWays nodes (n ∷ line) [] = ⊥
HaveWays nodes (n ∷ line) (way ∷ ways) = IsWayTo nodes n.number way × HaveWays nodes line (ways_beyond n.node.stand (forced_on n.node.forced way) ways)

-- a node that was expanded on a pair, with its first child behind it
abbrev pub expanded_kept : Kept → ℕ → PairId → ℕ → Kept
expanded_kept kept cost q first = record kept { node = record kept.node { stand = Expanded cost q }; next = Some first }

-- a child of a node
abbrev pub child_kept : ℕ → PairId → Side → MadeNode → Option ℕ → Kept
child_kept parent q side node next = record { origin = Some (record { parent = parent; pair = q; side = side }); node = node; next = next }

-- a node was expanded on a pair, and its two children are kept behind all other nodes
pub record AreGrown (old new : List Kept) (number cost : ℕ) (q : PairId) (lower higher : MadeNode) : Type 0 where
  pub kept : Kept
  pub there : slice_get old number ≡ Some kept
  pub all : new ≡ slice_set old number (expanded_kept kept cost q (length old)) ++ child_kept number q Lower lower (Some (length old + 1)) ∷ child_kept number q Higher higher kept.next ∷ []
