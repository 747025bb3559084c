use Rattle.std.proofs.Common.{List, length, ap, ◌∙◌, arith}
use Rattle.fleet_base.specs.declared.order.Pair.{Pair}
use Rattle.plan_graph.proofs.graph.PlanGraph.new.Goals as goal

pub invariant_of-result : goal.invariant_of-result
invariant_of-result c = record {
  routes = c.args.plan.now;
  accepted = c.robots-sound.ensures.sound;
  plan = λ t. record { lasts = c.in_ok-lasts.ensures t; pairs = (c.in_ok-copy.ensures ∙ c.requires) t };
  few = omega (arith, c.len-few.ensures.plan.few, ap (λ (ps : List Pair). length ps) c.in_ok-copy.ensures);
}
