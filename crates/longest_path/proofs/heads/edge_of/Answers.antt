use Rattle.std.proofs.Common.{arith}
use Rattle.fleet_base.proofs.Edges.{first_there}
use Rattle.plan_graph.proofs.PlanGraphs.{index_within}
use Rattle.longest_path.proofs.heads.edge_of.Goals as goal

pub edge-requires : goal.edge-requires
edge-requires c = omega (arith, index_within _ c.robots-within.ensures.limits _ (first_there _ _ c.pair.result c.args.side c.robots-within.ensures.graph c.pair.ensures))
