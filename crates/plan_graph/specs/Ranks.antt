-- What a ranking answers.
use Rattle.std.specs.Prelude.{◌≡◌, []}
use Rattle.fleet_base.specs.Order.{IsSorted, IsCycle}
use Rattle.plan_graph.specs.declared.ranking.Ranked.{Ranked}
use Rattle.plan_graph.specs.declared.ranking.Ranked.TheVariants.{Order, Cycle}
use Rattle.plan_graph.specs.Views.{OrientedGraph, Ranking, order_in}

-- the room lists all visits with every edge forward, or else the pairs of a cycle, and the other list is empty
abbrev pub IsRanked : OrientedGraph → Ranking → Ranked → Type 0
IsRanked view room Order = IsSorted view.graph (order_in view) room.order × (room.cycle ≡ [])
IsRanked view room Cycle = IsCycle view.graph (order_in view) room.cycle × (room.order ≡ [])
