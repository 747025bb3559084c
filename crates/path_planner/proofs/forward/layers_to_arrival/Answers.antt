use Rattle.std.proofs.Common.{◌++◌, ◌∷◌, [], List, arith, sym, ap, ◌∙◌, subst}
use Rattle.std.specs.Prelude.{Contains}
use Rattle.fleet_base.specs.declared.geometry.Cell.{Cell}
use Rattle.path_planner.specs.Search.{AreStood, IsNextLayer}
use Rattle.path_planner.proofs.Spread.{one_layer, last_stood, next_tick_layer, arrived, not_arrived}
use Rattle.path_planner.proofs.forward.layers_to_arrival.Goals as goal
use Rattle.path_planner.proofs.forward.layers_to_arrival.Goals.{else-tick-from-via-then-tick-from+else-is_in, else-tick-from-via-else-tick-from}

pub loop-tick-init : goal.loop-tick-init
loop-tick-init c = record {
  layers = one_layer c.args.grid.now c.args.fixed.now c.args.task c.args.last c.in_ok-first_layer.field-0 c.push.new.self c.in_ok-first_layer.ensures
      (c.in_ok-push.ensures.ok ∙ ap (λ (ls : List (List Cell)). ls ++ c.in_ok-first_layer.field-0 ∷ []) c.new-layers.ensures);
  tables = c.requires.tables;
}

pub returns-then-is_in-clause-layers : goal.returns-then-is_in-clause-layers
returns-then-is_in-clause-layers c =
    arrived c.args.grid.now c.args.fixed.now c.args.task c.args.last c.loop-tick.tick c.loop-tick.layers c.loop-tick.invariant.layers (omega (arith, c.loop-tick-test.true))
    (subst (λ (r : List Cell). Contains r c.args.task.goal) c.row-layer.ensures (c.is_in.ensures.yes c.if-is_in.true))
    ((c.requires.from c.loop-tick.tick).1 c.if-tick-from.true)

pub next_layer-requires-clause-stood : goal.next_layer-requires-clause-stood
next_layer-requires-clause-stood c =
    subst (AreStood c.args.grid.now c.args.fixed.now c.loop-tick.tick) (sym c.row-layer.ensures) (last_stood c.args.grid.now c.args.fixed.now c.args.task c.args.last c.loop-tick.tick c.loop-tick.layers c.loop-tick.invariant.layers)

pub loop-tick-preserved : goal.loop-tick-preserved
loop-tick-preserved c = record {
  layers = next_tick_layer c.args.grid.now c.args.fixed.now c.args.task c.args.last c.loop-tick.tick c.loop-tick.layers _ c.in_ok-next.next c.loop-tick.invariant.layers
      (not_arrived c.args.grid.now c.args.fixed.now c.args.task c.args.last c.loop-tick.tick c.args.from c.loop-tick.layers c.loop-tick.invariant.layers (omega (arith, c.loop-tick-test.true)) c.requires.from
      (elim c.else-tick-from.branch [
        | else-tick-from-via-then-tick-from+else-is_in w ↦ λ late there. w.is_in.ensures.no w.if-is_in.false (subst (λ (r : List Cell). Contains r c.args.task.goal) (sym c.row-layer.ensures) there)
        | else-tick-from-via-else-tick-from w ↦ λ late there. absurd (omega (arith, late, w.if-tick-from.false))
      ]))
      (subst (λ (r : List Cell). IsNextLayer c.args.grid.now c.args.fixed.now c.loop-tick.tick (record { goal = c.args.task.goal; last = c.args.last }) r c.in_ok-next.next) c.row-layer.ensures c.in_ok-next.ensures.layer)
      c.in_ok-push-2.ensures.ok;
  tables = c.next_layer.ensures.tables;
}
