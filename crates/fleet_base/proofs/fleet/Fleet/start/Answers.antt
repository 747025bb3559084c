use Rattle.std.proofs.Common.{◌+◌, ◌∙◌, List, ℕ, ap, rules, map, arith, length}
use Rattle.fleet_base.specs.declared.order.Pair.{Pair}
use Rattle.fleet_base.specs.declared.order.Side.{Side}
use Rattle.fleet_base.specs.TickRows.{Rows}
use Rattle.fleet_base.specs.Order.{graph_of}
use Rattle.fleet_base.proofs.FleetLaws.{shape_of_start}
use Rattle.fleet_base.proofs.GraphLaws.{length-map}
use Rattle.fleet_base.proofs.fleet.Fleet.start.Goals as goal

pub invariant_of-result : goal.invariant_of-result
invariant_of-result c = record {
  shape = shape_of_start (graph_of c.args.plan.now) _ (search rules);
  arrival_room = ap (λ (r : Rows). r.rooms) c.in_ok-arrivals.ensures ∙ ap (λ (ls : List ℕ). map (λ last. last + 1) ls) c.as_slice.ensures;
  release_room = ap (λ (r : Rows). r.rooms) c.in_ok-releases.ensures ∙ ap (λ (ls : List ℕ). map (λ last. last + 1) ls) c.as_slice-2.ensures;
  plan = record {
    routes = c.args.plan.now;
    plan = c.in_ok-lasts.ensures.sound;
    visits = c.in_ok-lasts.ensures.value;
    pairs = c.in_ok-plan_sides.ensures.value ∙ ap (λ (ps : List Pair). map (λ (p : Pair). p.first) ps) c.requires;
    few = omega (arith, c.in_ok-plan_sides.ensures.few, ap (λ (sides : List Side). length sides) c.in_ok-plan_sides.ensures.value, length-map (λ (p : Pair). p.first) c.args.pairs.now);
  };
}
