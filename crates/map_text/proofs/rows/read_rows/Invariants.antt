use Rattle.fleet_base.specs.Bytes.{file_lines}
use Rattle.map_text.proofs.TakenRows.{TakenRows}
use Rattle.map_text.proofs.rows.read_rows.Given as goal

abbrev pub invariant-loop-row : goal.invariant-loop-row
invariant-loop-row l = TakenRows l.width l.row (file_lines l.bytes) (file_lines l.rest) l.free.items
