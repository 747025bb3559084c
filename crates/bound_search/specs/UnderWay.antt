-- How far the search for a cheaper order has come.
use Rattle.std.specs.Prelude.{ℕ, ◌≡◌, ◌+◌, ◌*◌, ◌<◌, ◌≤◌, List, length, Option, Some, None}
use Rattle.fleet_base.specs.Rules.{IsFleetState}
use Rattle.cert_tree.specs.declared.node.Node.{Node}
use Rattle.order_choice.specs.declared.outcome.Outcome.{Outcome}
use Rattle.order_choice.specs.declared.outcome.Outcome.TheVariants.{Optimal, Spent}
use Rattle.order_choice.specs.Searching.{AreAbove, IsSearched}
use Rattle.search_nodes.specs.Making.{Making, best_order}
use Rattle.search_line.specs.Lines.{Numbered, nodes_on, first_number, IsWaiting}
use Rattle.search_line.specs.Going.{StandsAt}

-- a search of a state is under way: it expanded so many nodes, the decisions in force are those of the node at its place,
-- and two decisions at least were asked for at each node that was expanded
pub record IsUnderWay (m : Making) (line : List Numbered) (place : Option ℕ) (expanded : ℕ) : Type 0 where
  pub rules : IsFleetState m.graph m.state
  pub level : ℕ
  pub searched : IsSearched m.graph m.state (nodes_on line) (best_order m) m.cost level expanded
  pub placed : StandsAt line place m.decisions
  pub first : first_number line ≡ Some 0
  pub count : length line ≡ 2 * expanded + 1
  pub asked : 2 * expanded ≤ m.asked

-- a node that may be expanded next: it waits, none that waits costs less, and it costs less than the best order
pub record IsNext (m : Making) (line : List Numbered) (number cost : ℕ) : Type 0 where
  pub waits : IsWaiting line number cost
  pub least : AreAbove cost (nodes_on line)
  pub below : cost < m.cost

-- no node is left to expand, or the budget is spent and this is the least cost of those that are left
abbrev pub IsOver : Making → List Numbered → ℕ → ℕ → Option ℕ → Type 0
IsOver m line expanded budget None = AreAbove m.cost (nodes_on line) × (expanded ≤ budget)
IsOver m line expanded budget (Some least) = ((number : ℕ) × IsNext m line number least) × (expanded ≡ budget)

-- what a search answers: that no lawful schedule is cheaper, or the least cost that is left
abbrev pub outcome_of : List Node → Option ℕ → Outcome
outcome_of cert None = Optimal cert
outcome_of cert (Some least) = Spent cert least

-- the nodes were made of the same state
pub record OfSameState (old new : Making) : Type 0 where
  pub graph : new.graph ≡ old.graph
  pub state : new.state ≡ old.state
