use Rattle.std.proofs.Common.{◌≡◌, [], List}
use Rattle.std.specs.Prelude.{replicate}
use Rattle.fleet_base.specs.declared.order.PairId.{PairId}
use Rattle.fleet_base.proofs.pairs.empty_lists.Given as goal

abbrev pub invariant-loop : goal.invariant-loop
invariant-loop l = l.row ≡ replicate {A = List PairId} l.counter []
