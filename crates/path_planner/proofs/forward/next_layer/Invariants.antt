use Rattle.std.proofs.Common.{◌+◌}
use Rattle.path_planner.specs.Tables.{CoverGrid, TellsPlaces, TellsRobots}
use Rattle.path_planner.proofs.Spread.{LayerOf}
use Rattle.path_planner.proofs.forward.next_layer.Given as goal

abbrev pub invariant-loop-from : goal.invariant-loop-from
invariant-loop-from l = record {
  layer : LayerOf l.grid l.fixed l.tick l.aim l.layer l.from-index l.next;
  covers : CoverGrid l.grid l.tables;
  robots : TellsRobots l.fixed (l.tick + 1) l.tables.traffic;
  places : TellsPlaces l.next l.tables.places;
}
