use Rattle.std.proofs.Common.{◌≡◌, ◌++◌, take}
use Rattle.std.specs.Prelude.{map}
use Rattle.switch_pairs.specs.Found.{pair_of_stops}
use Rattle.switch_pairs.proofs.list.push_pairs.Given as goal

abbrev pub invariant-loop-other : goal.invariant-loop-other
invariant-loop-other l = l.found.items ≡ l.initial.found.items ++ map (pair_of_stops l.stop) (take l.other-index l.higher)
