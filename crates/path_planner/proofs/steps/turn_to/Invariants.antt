use Rattle.std.proofs.Common.{◌+◌}
use Rattle.path_planner.specs.Tables.{Covers}
use Rattle.path_planner.proofs.TableLaws.{RobotsOf}
use Rattle.path_planner.proofs.steps.turn_to.Given as goal

abbrev pub invariant-loop-robot : goal.invariant-loop-robot
invariant-loop-robot l = record {
  covers : Covers l.grid l.traffic;
  robots : RobotsOf l.fixed (l.tick + 1) l.robot l.traffic;
}
