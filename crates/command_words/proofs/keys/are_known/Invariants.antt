use Rattle.std.proofs.Common.{ℕ, ◌<◌, String, Global}
use Rattle.std.specs.Prelude.{string_bytes}
use Rattle.std.specs.List.{slice_index_or}
use Rattle.command_words.specs.Telling.{IsKnown, grammar_of}
use Rattle.command_words.proofs.keys.are_known.Given as goal

abbrev pub invariant-loop-word : goal.invariant-loop-word
invariant-loop-word l = (k : ℕ) → k < l.word-index → (d : String Global) → IsKnown (grammar_of l.keys) (string_bytes (slice_index_or l.words k d))
