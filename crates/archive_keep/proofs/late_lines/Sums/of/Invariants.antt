-- the sums of the ends so far, each within its bound
use Rattle.std.proofs.Common.{◌≡◌, ◌≤◌, ◌*◌, sum_by, take}
use Rattle.archive_keep.specs.declared.ends.RobotEnd.{RobotEnd}
use Rattle.archive_keep.specs.Report.{late_of}
use Rattle.archive_keep.proofs.late_lines.Sums.of.Given as goal

abbrev pub invariant-loop-ticks : goal.invariant-loop-ticks
invariant-loop-ticks l = record {
  runs : l.sums.runs ≡ l.ticks-index;
  planned : l.sums.planned ≡ sum_by (λ (ticks : RobotEnd). ticks.planned) (take l.ticks-index l.ends);
  actual : l.sums.actual ≡ sum_by (λ (ticks : RobotEnd). ticks.actual) (take l.ticks-index l.ends);
  late : l.sums.late ≡ sum_by late_of (take l.ticks-index l.ends);
  planned_bound : l.sums.planned ≤ l.ticks-index * 4096;
  actual_bound : l.sums.actual ≤ l.ticks-index * 1000000000000;
  late_bound : l.sums.late ≤ l.ticks-index * 1000000000000;
}
