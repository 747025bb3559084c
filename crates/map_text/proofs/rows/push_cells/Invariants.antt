use Rattle.std.proofs.Common.{◌≡◌, ◌++◌, map, take, true}
use Rattle.map_text.specs.MapText.{is_free_char, is_row}
use Rattle.map_text.proofs.rows.push_cells.Given as goal

abbrev pub invariant-loop-byte : goal.invariant-loop-byte
invariant-loop-byte l =
    (is_row (take l.byte-index l.row) ≡ true)
    × (l.free.items ≡ l.initial.free.items ++ map is_free_char (take l.byte-index l.row))
