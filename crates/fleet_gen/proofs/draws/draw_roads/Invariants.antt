use Rattle.std.proofs.Common.{◌≡◌, ◌+◌}
use Rattle.fleet_gen.specs.Words.{after, word_of}
use Rattle.fleet_gen.specs.Draws.{roads_of}
use Rattle.fleet_gen.proofs.draws.draw_roads.Given as goal

abbrev pub invariant-loop-row : goal.invariant-loop-row
invariant-loop-row l = record {
  roads : l.roads.items ≡ roads_of (word_of l.fn.words) l.row;
  words : l.words ≡ after (31 + l.row) l.fn.words;
}
