use Rattle.std.proofs.Common.{take}
use Rattle.fleet_base.proofs.PairNumbers.{AreNoted}
use Rattle.fleet_base.proofs.pairs.PairTable.from_list.Given as goal

abbrev pub invariant-loop-number : goal.invariant-loop-number
invariant-loop-number l = AreNoted l.numbers.items l.plan (take l.number l.list)
