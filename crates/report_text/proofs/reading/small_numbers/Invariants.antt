-- The numbers so far are copied, and are below 2^32.
use Rattle.std.proofs.Common.{◌≡◌, length, take}
use Rattle.report_text.specs.Reading.{AllSmall}
use Rattle.report_text.proofs.reading.small_numbers.Given as goal

abbrev pub invariant-loop-at : goal.invariant-loop-at
invariant-loop-at g l = (length l.small ≡ length l.number-items) × (take l.at l.small ≡ take l.at l.number-items) × AllSmall (take l.at l.number-items)
