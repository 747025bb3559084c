use Rattle.std.proofs.Common.{refl, arith}
use Rattle.path_planner.proofs.Spread.{layer_grown, whole_layer, stood_at}
use Rattle.path_planner.proofs.forward.next_layer.Goals as goal

pub step_out-requires-clause-clear : goal.step_out-requires-clause-clear
step_out-requires-clause-clear c = (stood_at c.args.grid.now c.args.fixed.now c.args.tick c.args.layer.now c.requires.stood c.loop-from.from-index _ (omega arith) refl).1

pub loop-from-preserved : goal.loop-from-preserved
loop-from-preserved c = record {
  layer = layer_grown c.args.grid.now c.args.fixed.now c.args.tick c.args.aim c.args.layer.now c.loop-from.from-index _ c.loop-from.next c.step_out.new.next c.loop-from.invariant.layer (omega arith) refl c.in_ok-step_out.ensures.steps;
  covers = record { traffic = c.loop-from.invariant.covers.traffic; places = c.step_out.ensures.covers };
  robots = c.loop-from.invariant.robots;
  places = c.in_ok-step_out.ensures.places;
}

pub returns-clause-layer : goal.returns-clause-layer
returns-clause-layer c = whole_layer c.args.grid.now c.args.fixed.now c.args.tick c.args.aim c.args.layer.now c.loop-from.from-index c.loop-from.next c.loop-from.invariant.layer (omega arith)
