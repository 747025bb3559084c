-- The text goes on with the bytes of the word so far.
use Rattle.std.proofs.Common.{◌≡◌, ◌≤◌, length, take}
use Rattle.report_text.proofs.reading.word.Given as goal

abbrev pub invariant-loop-at : goal.invariant-loop-at
invariant-loop-at l = (l.at ≤ length l.text) × (take l.at l.text ≡ take l.at l.word)
