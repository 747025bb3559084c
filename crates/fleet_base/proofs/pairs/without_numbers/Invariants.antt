use Rattle.std.proofs.Common.{◌≡◌, take}
use Rattle.fleet_base.specs.PairLists.{no_numbers}
use Rattle.fleet_base.proofs.pairs.without_numbers.Given as goal

abbrev pub invariant-loop-robot : goal.invariant-loop-robot
invariant-loop-robot l = l.numbers.items ≡ no_numbers (take l.robot l.plan)
