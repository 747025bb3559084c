-- What is written of a line, where more is known of what its nodes cost.
use Rattle.std.proofs.Common.{ℕ, suc, zero, ◌≤◌, List, [], ◌∷◌, arith}
use Rattle.fleet_base.specs.Order.{Graph}
use Rattle.fleet_base.specs.State.{FleetState}
use Rattle.cert_tree.specs.declared.node.Node.{Node}
use Rattle.cert_tree.specs.Decisions.{Decision}
use Rattle.order_choice.specs.declared.made.MadeNode.{MadeNode}
use Rattle.order_choice.specs.declared.made.Stand.{Stand}
use Rattle.order_choice.specs.declared.made.Stand.TheVariants.{Round, Waiting, Expanded}
use Rattle.order_choice.specs.Searching.{IsAbove, AreAbove, AreParted}
use Rattle.order_choice.specs.Writing.{with_children, behind, IsWrittenOf}
use Rattle.order_choice.specs.Writing.IsWrittenOf.{ended, as_cyclic, as_open, as_bound, as_cut, as_branch}

-- what is left of a line costs as much
above_behind : (level : ℕ) (line : List MadeNode) (k : ℕ) → AreAbove level line → AreAbove level (behind k line)
above_behind level line zero a = a
above_behind level [] (suc k) a = tt
above_behind level (n ∷ line) (suc k) a = above_behind level line (with_children n.stand k) a.1

parted_behind : (level : ℕ) (line : List MadeNode) (k : ℕ) → AreParted level line → AreParted level (behind k line)
parted_behind level line zero p = p
parted_behind level [] (suc k) p = tt
parted_behind level (n ∷ line) (suc k) p = parted_behind level line (with_children n.stand k) p.1

-- nodes that cost so much cost less too
above_less : (less level : ℕ) (stand : Stand) → less ≤ level → IsAbove level stand → IsAbove less stand
above_less less level (Round cycle) le a = tt
above_less less level (Waiting cost) le a = omega (arith, le, a)
above_less less level (Expanded cost q) le a = tt

pub all_above_less : (less level : ℕ) (line : List MadeNode) → less ≤ level → AreAbove level line → AreAbove less line
all_above_less less level [] le a = tt
all_above_less less level (n ∷ line) le a = (above_less less level n.stand le a.0, all_above_less less level line le a.1)

module _ (g : Graph) (x : FleetState) (best : ℕ) where
  abbrev pub IsFreely : List MadeNode → List (List Decision) → List Node → Type 0
  IsFreely line ways nodes = IsWrittenOf g x best (λ c. Unit {0}) (λ c. Unit {0}) line ways nodes

  -- where no node that waits costs less than the best order, none is left open
  pub closed : (line : List MadeNode) (ways : List (List Decision)) (nodes : List Node) → IsWrittenOf g x best (λ c. Unit {0}) (λ c. Unit {0}) line ways nodes → AreAbove best line → IsWrittenOf g x best (λ c. ⊥) (λ c. Unit {0}) line ways nodes
  closed _ _ _ ended a = ended
  closed _ _ _ (as_cyclic forced cycle line way ways nodes w) a = as_cyclic forced cycle line way ways nodes (closed line ways nodes w a.1)
  closed _ _ _ (as_open forced cost line way ways nodes lt left w) a = absurd (omega (arith, lt, a.0))
  closed _ _ _ (as_bound forced cost line way ways paths nodes le b p w) a = as_bound forced cost line way ways paths nodes le b p (closed line ways nodes w a.1)
  closed _ _ _ (as_cut forced cost q line way ways paths nodes le b p w) a = as_cut forced cost q line way ways paths nodes le b p (closed (behind 2 line) ways nodes w (above_behind best line 2 a.1))
  closed _ _ _ (as_branch forced cost q line way ways nodes lt branched w) a = as_branch forced cost q line way ways nodes lt tt (closed line _ nodes w a.1)

  -- where expanded nodes cost at most so much, and those that wait at least, so do the branches and what is left open
  pub parted : (level least : ℕ) (line : List MadeNode) (ways : List (List Decision)) (nodes : List Node) → level ≤ least → IsWrittenOf g x best (λ c. Unit {0}) (λ c. Unit {0}) line ways nodes → AreAbove least line → AreParted level line
      → IsWrittenOf g x best (λ c. least ≤ c) (λ c. c ≤ least) line ways nodes
  parted level least _ _ _ low ended a p = ended
  parted level least _ _ _ low (as_cyclic forced cycle line way ways nodes w) a p = as_cyclic forced cycle line way ways nodes (parted level least line ways nodes low w a.1 p.1)
  parted level least _ _ _ low (as_open forced cost line way ways nodes lt left w) a p = as_open forced cost line way ways nodes lt a.0 (parted level least line ways nodes low w a.1 p.1)
  parted level least _ _ _ low (as_bound forced cost line way ways paths nodes le b pr w) a p = as_bound forced cost line way ways paths nodes le b pr (parted level least line ways nodes low w a.1 p.1)
  parted level least _ _ _ low (as_cut forced cost q line way ways paths nodes le b pr w) a p =
      as_cut forced cost q line way ways paths nodes le b pr (parted level least (behind 2 line) ways nodes low w (above_behind least line 2 a.1) (parted_behind level line 2 p.1))
  parted level least _ _ _ low (as_branch forced cost q line way ways nodes lt branched w) a p = as_branch forced cost q line way ways nodes lt (omega (arith, low, p.0)) (parted level least line _ nodes low w a.1 p.1)
