use Rattle.std.proofs.Common.{arith}
use Rattle.fleet_base.proofs.Edges.{first_there}
use Rattle.plan_graph.proofs.PlanGraphs.{index_within}
use Rattle.plan_graph.proofs.view.Oriented.tail_into.Goals as goal

pub edge-edge-requires : goal.edge-edge-requires
edge-edge-requires c =
    omega (arith, index_within _ c.robots-within.ensures.limits _ (first_there _ _ c.pair-pair.result c.in_ok-side.side c.robots-within.ensures.graph c.pair-pair.ensures))
