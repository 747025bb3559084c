use Rattle.std.proofs.Common.{subst}
use Rattle.fleet_base.specs.Order.{Graph, IsGraph}
use Rattle.plan_graph.proofs.PlanGraphs.{plan_graph_is_graph, plan_graph_within_limits}
use Rattle.plan_graph.proofs.graph.PlanGraph.robots.Goals as goal
use Rattle.plan_graph.specs.Limits.{IsGraphWithinLimits}

pub returns-clause-graph : goal.returns-clause-graph
returns-clause-graph c = subst (λ (g : Graph). IsGraph g) c.self.view_is (plan_graph_is_graph _ c.self.invariant)

pub returns-clause-limits : goal.returns-clause-limits
returns-clause-limits c = subst (λ (g : Graph). IsGraphWithinLimits g) c.self.view_is (plan_graph_within_limits _ c.self.invariant)
