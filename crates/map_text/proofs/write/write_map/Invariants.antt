use Rattle.std.proofs.Common.{◌≡◌}
use Rattle.map_text.proofs.WrittenMap.{text_of_rows}
use Rattle.map_text.proofs.write.write_map.Given as goal

abbrev pub invariant-loop-row : goal.invariant-loop-row
invariant-loop-row l = l.text ≡ text_of_rows l.grid l.row
