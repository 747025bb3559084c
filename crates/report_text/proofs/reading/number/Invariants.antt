-- The bytes so far spell the value.
use Rattle.std.proofs.Common.{take}
use Rattle.report_text.specs.Reading.{Spells}
use Rattle.report_text.proofs.reading.number.Given as goal

abbrev pub invariant-loop-at : goal.invariant-loop-at
invariant-loop-at l = Spells l.value (take l.at l.text)
