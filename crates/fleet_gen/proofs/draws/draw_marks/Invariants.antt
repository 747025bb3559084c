use Rattle.std.proofs.Common.{◌≡◌}
use Rattle.fleet_gen.specs.Words.{after, word_of}
use Rattle.fleet_gen.specs.Draws.{marks_of}
use Rattle.fleet_gen.proofs.draws.draw_marks.Given as goal

abbrev pub invariant-loop-number : goal.invariant-loop-number
invariant-loop-number l = record {
  marks : l.free.items ≡ marks_of l.roads (word_of l.fn.words) l.number;
  words : l.words ≡ after l.number l.fn.words;
}
