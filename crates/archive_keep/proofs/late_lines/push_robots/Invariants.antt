-- the robots so far
use Rattle.std.proofs.Common.{◌≡◌, ◌≤◌, ◌++◌, false, flat_map, take}
use Rattle.fleet_base.specs.Bytes.{IsPrefix}
use Rattle.archive_keep.specs.Report.{part_of, all_robots}
use Rattle.archive_keep.proofs.late_lines.push_robots.Given as goal

abbrev pub invariant-loop-robot : goal.invariant-loop-robot
invariant-loop-robot g l = record {
  robots : g.K.Keeper.tells → l.out ≡ l.initial.out ++ flat_map (part_of (g.K.Keeper.table l.initial.keeper)) (take l.robot all_robots);
  text : IsPrefix l.initial.out l.out;
  rows : g.K.Keeper.tells → g.K.Keeper.table l.keeper ≡ g.K.Keeper.table l.initial.keeper;
  attached : g.K.Keeper.attached l.keeper ≡ g.K.Keeper.attached l.initial.keeper;
  early : g.K.Keeper.attached l.initial.keeper ≡ false → l.robot ≡ 0;
  faults : g.K.Keeper.faults l.initial.keeper ≤ g.K.Keeper.faults l.keeper;
}
