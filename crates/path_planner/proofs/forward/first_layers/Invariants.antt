use Rattle.std.proofs.Common.{◌-◌, ◌≤◌}
use Rattle.path_planner.specs.Tables.{CoverGrid}
use Rattle.path_planner.proofs.forward.first_layers.Given as goal

abbrev pub invariant-loop-slack : goal.invariant-loop-slack
invariant-loop-slack l = record {
  tables : CoverGrid l.grid l.tables;
  slack : l.slack ≤ 13000;
}

abbrev pub decreases-loop-slack : goal.decreases-loop-slack
decreases-loop-slack l = l.horizon - l.slack
