-- What nodes are made with, as it is kept.
use Rattle.std.specs.Prelude.{◌≡◌}
use Rattle.fleet_base.specs.Rules.{IsFleetState}
use Rattle.order_choice.specs.Searching.{IsBest}
use Rattle.search_nodes.specs.declared.maker.Maker.TheInside.{Inside}
use Rattle.search_nodes.specs.Making.{Making, best_order}
use Rattle.search_nodes.specs.Weighing.{IsViewOf}

-- what a caller sees
abbrev pub making_of : Inside → Making
making_of m = record { graph = m.graph.now; state = m.fleet.now; decisions = m.live.decisions; asked = m.live.asked; best = m.best.sides; cost = m.cost }

-- the schedule and both views are of the graph and the state, and the best order is as good as it says
pub record IsMaker (m : Inside) : Type 0 where
  pub rules : IsFleetState m.graph.now m.fleet.now
  pub live_graph : m.live.graph ≡ m.graph.now
  pub live_state : m.live.state ≡ m.fleet.now
  pub candidate : IsViewOf m.graph.now m.candidate
  pub best_view : IsViewOf m.graph.now m.best
  pub best : IsBest m.graph.now m.fleet.now (best_order (making_of m)) m.cost
