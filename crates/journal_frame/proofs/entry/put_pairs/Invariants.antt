use Rattle.std.proofs.Common.{◌≡◌, ◌++◌, ◌^◌, ◌<◌, length, take, All}
use Rattle.std.specs.Int.{w32, to_be_bytes}
use Rattle.journal_frame.specs.Entries.{pair_bytes}
use Rattle.journal_frame.proofs.entry.put_pairs.Given as goal

abbrev pub invariant-loop-pair : goal.invariant-loop-pair
invariant-loop-pair l =
    (l.out.items ≡ l.fn.out.items ++ (to_be_bytes w32 (length l.pairs) ++ pair_bytes (take l.pair-index l.pairs)))
    × All (λ q. q.0 < 2 ^ 32) (take l.pair-index l.pairs)
