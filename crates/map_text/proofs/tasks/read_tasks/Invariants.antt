use Rattle.std.proofs.Common.{◌≡◌, ◌+◌, length}
use Rattle.fleet_base.specs.Bytes.{file_lines}
use Rattle.map_text.specs.TaskLines.{TakesTasks}
use Rattle.map_text.proofs.tasks.read_tasks.Given as goal

abbrev pub invariant-loop-line : goal.invariant-loop-line
invariant-loop-line l = record {
  taken : TakesTasks (file_lines l.bytes) (file_lines l.rest) l.tasks;
  counted : l.number ≡ length l.tasks + 1;
}

abbrev pub decreases-loop-line : goal.decreases-loop-line
decreases-loop-line l = length (file_lines l.rest)
