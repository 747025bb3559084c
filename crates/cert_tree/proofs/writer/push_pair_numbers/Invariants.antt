-- The numbers so far are appended, and they fit.
use Rattle.std.proofs.Common.{◌≡◌, ◌++◌, ◌<◌, ◌^◌, take}
use Rattle.std.specs.Prelude.{All}
use Rattle.fleet_base.specs.declared.order.PairId.{PairId}
use Rattle.cert_tree.specs.CertText.{pair_numbers}
use Rattle.cert_tree.proofs.writer.push_pair_numbers.Given as goal

abbrev pub invariant-loop-pair : goal.invariant-loop-pair
invariant-loop-pair l = (l.out ≡ l.fn.out ++ pair_numbers (take l.pair-index l.pairs)) × All (λ (q : PairId). q.0 < 2 ^ 32) (take l.pair-index l.pairs)
