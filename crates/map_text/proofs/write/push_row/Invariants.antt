use Rattle.std.proofs.Common.{◌≡◌, ◌++◌, map}
use Rattle.std.specs.List.{range_with_len}
use Rattle.map_text.proofs.WrittenMap.{mark_of}
use Rattle.map_text.proofs.write.push_row.Given as goal

abbrev pub invariant-loop-col : goal.invariant-loop-col
invariant-loop-col l = l.text ≡ l.initial.text ++ map (mark_of l.grid l.row) (range_with_len 0 l.col)
