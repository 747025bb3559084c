use Rattle.std.proofs.Common.{arith}
use Rattle.std.proofs.Common.{◌<◌, ◌^◌}
use Rattle.std.proofs.lemmas.Grind.{common_steps}
use Rattle.std.proofs.lemmas.List.Elements.{All-more}
use Rattle.std.proofs.lemmas.Result.{err_from_is_err_and}
use Rattle.fleet_base.specs.declared.order.PairId.{PairId}
use Rattle.fleet_base.specs.Bytes.{field}
use Rattle.fleet_base.proofs.Appending.{pieces_left}
use Rattle.cert_tree.proofs.writer.push_pair_numbers.Goals as goal

pub returns-in_err-push_field-clause-err : goal.returns-in_err-push_field-clause-err
returns-in_err-push_field-clause-err c =
    let p = err_from_is_err_and c.from_residual.result c.from_residual.ensures.1 in
    rw p.1
    (pieces_left (λ (q : PairId). field q.0) c.args.out.now c.loop-pair.out c.push_field.new.out c.args.pairs.now c.loop-pair.pair-index (record { 0 = 0 }) (omega arith) c.loop-pair.invariant.0 (rw c.from.ensures at c.in_err-push_field.ensures.err))

pub loop-pair-preserved : goal.loop-pair-preserved
loop-pair-preserved c = (grind (arith, common_steps), All-more (λ (q : PairId). q.0 < 2 ^ 32) c.args.pairs.now c.loop-pair.pair-index (record { 0 = 0 }) c.loop-pair-test.true c.loop-pair.invariant.1 (omega arith))
