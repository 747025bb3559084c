use Rattle.std.proofs.Common.{ℕ, Option, sym, subst}
use Rattle.fleet_base.specs.declared.order.Side.{Side}
use Rattle.fleet_base.specs.Order.{IsSoundOrder, order_of}
use Rattle.plan_graph.specs.Views.{order_in}
use Rattle.cert_trials.proofs.costs.both_costs.Goals as goal

pub order_cost-cost-requires-clause-sound : goal.order_cost-cost-requires-clause-sound
order_cost-cost-requires-clause-sound c = subst (λ (o : ℕ → Option Side). IsSoundOrder c.args.view.now.graph o) (λ j q. sym (c.requires.sides q) j) c.requires.state.order

pub order_cost-cost-requires-clause-closed : goal.order_cost-cost-requires-clause-closed
order_cost-cost-requires-clause-closed c = λ q closed. c.requires.sides q
