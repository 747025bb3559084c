use Rattle.std.proofs.Common.{◌≡◌, take, min}
use Rattle.map_text.proofs.Digits.{value_of, AreDigits}
use Rattle.map_text.proofs.numerals.capped_number.Given as goal

abbrev pub invariant-loop-digit : goal.invariant-loop-digit
invariant-loop-digit l =
    AreDigits l.digits l.digit-index × (l.value ≡ min (value_of (take l.digit-index l.digits)) 4097)
