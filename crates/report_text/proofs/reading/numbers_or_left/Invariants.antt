-- The numbers so far are read, and the array keeps its length.
use Rattle.std.proofs.Common.{◌≡◌, length, take}
use Rattle.report_text.proofs.Spelling.{HasRead}
use Rattle.report_text.proofs.reading.numbers_or_left.Given as goal

abbrev pub invariant-loop-number : goal.invariant-loop-number
invariant-loop-number g l = (length l.number-items ≡ g.row.N) × HasRead l.words g.row.N l.line (take l.number-index l.number-items) l.rest
