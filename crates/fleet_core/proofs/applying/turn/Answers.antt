use Rattle.std.proofs.Common.{List, ap, ◌∙◌, get_or, length}
use Rattle.std.proofs.lemmas.List.{length-set}
use Rattle.fleet_base.specs.declared.order.Side.{Side}
use Rattle.fleet_base.specs.State.{FleetState}
use Rattle.fleet_core.proofs.Applied.{turned_next, only_sides}
use Rattle.fleet_core.proofs.applying.turn.Goals as goal

pub loop-q-preserved : goal.loop-q-preserved
loop-q-preserved c =
    let sides = ap (λ (x : FleetState). x.sides) c.set_side.ensures in (
      turned_next c.loop-q.fleet.sides c.set_side.new.self.sides c.args.switched.now c.loop-q.q-index (record { 0 = 0 }) c.side.result c.other-side.result c.loop-q-test.true c.side.ensures c.other-side.ensures sides
          ∙ c.loop-q.invariant.0,
      only_sides c.args.fleet.now c.loop-q.fleet c.set_side.new.self _ c.loop-q.invariant.1 c.set_side.ensures,
      ap (λ (ss : List Side). length ss) sides ∙ length-set c.loop-q.fleet.sides (get_or c.args.switched.now c.loop-q.q-index (record { 0 = 0 })).0 c.other-side.result ∙ c.loop-q.invariant.2,
    )
