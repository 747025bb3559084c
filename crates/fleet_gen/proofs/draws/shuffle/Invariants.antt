use Rattle.std.proofs.Common.{◌≡◌}
use Rattle.fleet_gen.specs.Words.{after, word_of}
use Rattle.fleet_gen.specs.Draws.{shuffled}
use Rattle.fleet_gen.proofs.draws.shuffle.Given as goal

abbrev pub invariant-loop-exchange : goal.invariant-loop-exchange
invariant-loop-exchange l = record {
  goals : l.goals ≡ shuffled (word_of l.fn.words) l.exchange;
  words : l.words ≡ after l.exchange l.fn.words;
}
