-- What a search makes its nodes with: a state, the decisions in force, and the best order so far.
use Rattle.std.specs.Prelude.{ℕ, ◌≡◌, ◌≤◌, List, map, Option}
use Rattle.fleet_base.specs.declared.order.Side.{Side}
use Rattle.fleet_base.specs.Order.{Graph}
use Rattle.fleet_base.specs.State.{FleetState}
use Rattle.plan_graph.specs.Views.{order_in}
use Rattle.longest_path.specs.declared.decision.Decision.{Decision as Given}
use Rattle.cert_tree.specs.Decisions.{Decision}

-- a state, the decisions in force, the last one first, how often one was asked for, and the best order with its cost
pub record Making : Type 0 where
  pub graph : Graph
  pub state : FleetState
  pub decisions : List Given
  pub asked : ℕ
  pub best : List (Option Side)
  pub cost : ℕ

-- the best order
abbrev pub best_order : Making → ℕ → Option Side
best_order m = order_in (record { graph = m.graph; sides = m.best })

-- the decisions on the way to a node, as a schedule is given them
abbrev pub given_on : List Decision → List Given
given_on way = map (λ d. record { pair = record { 0 = d.pair }; side = d.side }) way

-- the same state and the same best order, and decisions were asked for no less often
pub record KeepsBest (old new : Making) : Type 0 where
  pub graph : new.graph ≡ old.graph
  pub state : new.state ≡ old.state
  pub best : new.best ≡ old.best
  pub cost : new.cost ≡ old.cost
  pub asked : old.asked ≤ new.asked

-- the state and the decisions are as before, the best order is no dearer, and decisions were asked for so often at least
pub record IsBack (old new : Making) (count : ℕ) : Type 0 where
  pub graph : new.graph ≡ old.graph
  pub state : new.state ≡ old.state
  pub decisions : new.decisions ≡ old.decisions
  pub no_dearer : new.cost ≤ old.cost
  pub asked : count ≤ new.asked
