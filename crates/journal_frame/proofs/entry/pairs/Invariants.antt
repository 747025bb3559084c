use Rattle.std.proofs.Common.{◌≡◌, ◌-◌}
use Rattle.journal_frame.specs.Reading.{pairs_at}
use Rattle.journal_frame.proofs.Loop.{with_front}
use Rattle.journal_frame.proofs.entry.pairs.Given as goal

abbrev pub invariant-loop : goal.invariant-loop
invariant-loop l = with_front l.pairs (pairs_at (l.count - l.counter) l.rest) ≡ pairs_at l.count l.bytes
