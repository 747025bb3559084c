use Rattle.std.proofs.Common.{◌++◌, ◌∷◌, [], List, ap, sym, ◌∙◌}
use Rattle.fleet_base.specs.declared.order.Side.{Side}
use Rattle.fleet_base.proofs.FleetLaws.{sides_more}
use Rattle.fleet_base.proofs.fleet.sides_of.Goals as goal

pub loop-number-preserved : goal.loop-number-preserved
loop-number-preserved c =
    c.in_ok-push.ensures.ok ∙ ap (λ (sides : List Side). sides ++ c.pair.result.first ∷ []) c.loop-number.invariant ∙ sym (sides_more c.args.pairs.now c.loop-number.number c.pair.result c.pair.ensures)
