use Rattle.std.proofs.Common.{arith, ◌^◌, ◌<◌, get_or}
use Rattle.std.proofs.lemmas.Grind.{common_steps}
use Rattle.std.proofs.lemmas.List.Elements.{All-more}
use Rattle.fleet_base.specs.declared.order.PairId.{PairId}
use Rattle.journal_frame.proofs.entry.put_pairs.Goals as goal

pub loop-pair-preserved : goal.loop-pair-preserved
loop-pair-preserved c =
    let zeroth : PairId = record { 0 = 0 } in
    let small : (get_or c.args.pairs.now c.loop-pair.pair-index zeroth).0 < 2 ^ 32 = omega arith in
    (grind (arith, common_steps), All-more (λ q. q.0 < 2 ^ 32) c.args.pairs.now c.loop-pair.pair-index zeroth c.loop-pair-test.true c.loop-pair.invariant.1 small)
