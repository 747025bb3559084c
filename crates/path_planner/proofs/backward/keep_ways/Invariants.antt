use Rattle.path_planner.specs.Tables.{CoverGrid}
use Rattle.path_planner.proofs.Retrace.{AreWaysFrom}
use Rattle.path_planner.proofs.backward.keep_ways.Given as goal

abbrev pub invariant-loop-tick : goal.invariant-loop-tick
invariant-loop-tick l = record {
  ways : AreWaysFrom l.grid l.fixed l.fn.task l.fn.layers l.tick l.layers;
  tables : CoverGrid l.grid l.tables;
}
