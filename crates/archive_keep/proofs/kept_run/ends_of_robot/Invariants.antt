-- the ends in the runs so far
use Rattle.std.proofs.Common.{◌≡◌, ◌≤◌, map, length, take, All}
use Rattle.archive_keep.specs.Rows.{IsEnd, rows_with}
use Rattle.archive_keep.specs.Memory.{table_of}
use Rattle.archive_keep.specs.Named.{row_of}
use Rattle.archive_keep.proofs.kept_run.ends_of_robot.Given as goal

abbrev pub invariant-loop-kept : goal.invariant-loop-kept
invariant-loop-kept l = (map (row_of l.robot) l.named.items ≡ rows_with l.robot (table_of (take l.kept-index l.runs))) × (length l.named.items ≤ l.kept-index) × All (λ end. IsEnd end.ticks) l.named.items
