-- The turns of the nodes that wait.
use Rattle.std.specs.Prelude.{ℕ, ◌≡◌, ◌≢◌, ◌⊎◌, ◌↔◌, List, slice_get, IsTrue, Option, Some, None}
use Rattle.std.specs.declared.cmp.Ordering.{Ordering}
use Rattle.std.specs.Ordering.{nat_cmp, ordering_then}
use Rattle.std.specs.BTreeSet.{BTreeSet, contains}
use Rattle.order_choice.specs.declared.made.Stand.{Stand}
use Rattle.order_choice.specs.declared.made.Stand.TheVariants.{Round, Waiting, Expanded}
use Rattle.search_line.specs.declared.kept.Kept.{Kept}
use Rattle.search_line.specs.declared.turns.Turn.{Turn}

-- the least cost comes first, and among equals the greatest number
abbrev pub turn_cmp : Turn → Turn → Ordering
turn_cmp a b = ordering_then (nat_cmp a.cost b.cost) (nat_cmp b.number.0 a.number.0)

-- the turn of a node with this number, if it waits
abbrev pub turn_for : ℕ → Stand → Option Turn
turn_for number (Round cycle) = None
turn_for number (Waiting cost) = Some (record { cost = cost; number = record { 0 = number } })
turn_for number (Expanded cost q) = None

-- a turn is one of these
abbrev pub IsTurn : BTreeSet Turn → Turn → Type 0
IsTurn turns t = IsTrue (contains turn_cmp turns t)

-- a turn was added, if there is one to add
abbrev pub AreAdded : BTreeSet Turn → BTreeSet Turn → Option Turn → Type 0
AreAdded old new more = (t : Turn) → IsTurn new t ↔ (IsTurn old t ⊎ (more ≡ Some t))

-- a turn was removed, if there is one to remove
abbrev pub AreRemoved : BTreeSet Turn → BTreeSet Turn → Option Turn → Type 0
AreRemoved old new gone = (t : Turn) → IsTurn new t ↔ (IsTurn old t × (gone ≢ Some t))

-- a turn was removed, and the turns of two nodes were added, if they wait
abbrev pub AreExchanged : BTreeSet Turn → BTreeSet Turn → Turn → Option Turn → Option Turn → Type 0
AreExchanged old new gone lower higher = (t : Turn) → IsTurn new t ↔ (((IsTurn old t ⊎ (lower ≡ Some t)) ⊎ (higher ≡ Some t)) × (gone ≢ t))

-- a node waits with this relaxed cost
pub record WaitsWith (nodes : List Kept) (number cost : ℕ) : Type 0 where
  pub kept : Kept
  pub there : slice_get nodes number ≡ Some kept
  pub stand : kept.node.stand ≡ Waiting cost

-- these are the turns of the nodes that wait
abbrev pub AreTurns : List Kept → BTreeSet Turn → Type 0
AreTurns nodes turns = (t : Turn) → IsTurn turns t ↔ WaitsWith nodes t.number.0 t.cost
