use Rattle.std.proofs.Common.{◌≡◌, take}
use Rattle.fleet_base.proofs.pairs.PairTable.copy.Given as goal

abbrev pub invariant-loop-row : goal.invariant-loop-row
invariant-loop-row l = l.numbers.items ≡ take l.row-index l.self-inside.numbers.items
