use Rattle.std.proofs.Common.{rules}
use Rattle.journal_frame.proofs.entry.entry_bytes.Goals as goal

pub returns : goal.returns
returns c = record {
  numbers = c.requires.numbers;
  tick = c.in_ok-put_entry.ensures.tick;
  order = c.requires.order;
  few = c.requires.few;
  pairs = rw (← c.as_slice.ensures) c.in_ok-put_entry.ensures.pairs;
  payload_is = search rules;
}
