use Rattle.std.proofs.Common.{length}
use Rattle.fleet_base.specs.Bytes.{file_lines}
use Rattle.map_text.proofs.BlankLines.{TakenBlank}
use Rattle.map_text.proofs.read.check_end.Given as goal

abbrev pub invariant-loop-line : goal.invariant-loop-line
invariant-loop-line l = TakenBlank l.above l.number (file_lines l.bytes) (file_lines l.rest)

abbrev pub decreases-loop-line : goal.decreases-loop-line
decreases-loop-line l = length (file_lines l.rest)
