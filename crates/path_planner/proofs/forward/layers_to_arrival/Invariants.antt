use Rattle.path_planner.specs.Tables.{CoverGrid}
use Rattle.path_planner.proofs.Spread.{LayersTo}
use Rattle.path_planner.proofs.forward.layers_to_arrival.Given as goal

abbrev pub invariant-loop-tick : goal.invariant-loop-tick
invariant-loop-tick l = record {
  layers : LayersTo l.grid l.fixed l.task l.last l.tick l.layers;
  tables : CoverGrid l.grid l.tables;
}
