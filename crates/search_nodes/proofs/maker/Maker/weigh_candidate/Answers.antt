use Rattle.std.proofs.Common.{sym, subst, arith}
use Rattle.fleet_base.specs.Order.{Graph}
use Rattle.plan_graph.specs.Views.{OrientedGraph, order_in}
use Rattle.order_choice.specs.Searching.{IsBest}
use Rattle.search_nodes.specs.Weighing.{IsViewOf}
use Rattle.search_nodes.proofs.Weighed.{parted_now, dear_now, cost_now, best_now}
use Rattle.search_nodes.proofs.maker.Maker.weigh_candidate.Goals as goal

pub returns-in-Some-clause-weighed : goal.returns-in-Some-clause-weighed
returns-in-Some-clause-weighed c = λ way on. parted_now c.self.inside c.self.invariant c.args.self.now c.self.view_is c.in-Some.q.0 c.in-Some.ensures c.self.inside.cost way on

pub invariant_of-self-in-Some-cost_below : goal.invariant_of-self-in-Some-cost_below
invariant_of-self-in-Some-cost_below c =
    let m = c.self.inside in
    let i = c.self.invariant in
    let view = c.write_candidate.new.view in
    let cost = c.in-Some-cost_below.cost in
    record {
      rules = i.rules;
      live_graph = i.live_graph;
      live_state = i.live_state;
      candidate = subst (λ (v : OrientedGraph). IsViewOf m.graph.now v) (sym c.swap.ensures.x_after) i.best_view;
      best_view = subst (λ (v : OrientedGraph). IsViewOf m.graph.now v) (sym c.swap.ensures.y_after) (subst (λ (g : Graph). IsViewOf g view) i.live_graph c.write_candidate.ensures.view);
      best = subst (λ (v : OrientedGraph). IsBest m.graph.now m.fleet.now (order_in v) cost) (sym c.swap.ensures.y_after)
          (best_now m i c.args.self.now c.self.view_is view c.write_candidate.ensures.view c.write_candidate.ensures.candidate cost c.in-Some-cost_below.ensures.cost (omega (arith, c.in-Some-cost_below.ensures.below)));
    }

pub returns-in-Some-cost_below-clause-weighed : goal.returns-in-Some-cost_below-clause-weighed
returns-in-Some-cost_below-clause-weighed c =
    λ way on.
    cost_now c.self.inside c.self.invariant c.args.self.now c.self.view_is c.write_candidate.new.view c.write_candidate.ensures.view c.write_candidate.ensures.candidate c.in-Some-cost_below.cost c.in-Some-cost_below.ensures.cost way on

pub returns-in_default-cost_below-clause-weighed : goal.returns-in_default-cost_below-clause-weighed
returns-in_default-cost_below-clause-weighed c =
    λ way on.
    dear_now c.self.inside c.self.invariant c.args.self.now c.self.view_is c.write_candidate.new.view c.write_candidate.ensures.view c.write_candidate.ensures.candidate c.self.inside.cost c.in_default-cost_below.ensures.dear way on
