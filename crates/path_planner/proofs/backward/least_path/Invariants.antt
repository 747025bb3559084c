use Rattle.path_planner.specs.Tables.{Covers}
use Rattle.path_planner.proofs.Retrace.{IsLedBy}
use Rattle.path_planner.proofs.backward.least_path.Given as goal

abbrev pub invariant-loop-tick : goal.invariant-loop-tick
invariant-loop-tick l = record {
  led : IsLedBy l.grid l.fixed l.fn.task l.layers l.tick l.here l.path.items;
  traffic : Covers l.grid l.traffic;
}
