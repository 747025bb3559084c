use Rattle.std.proofs.Common.{arith}
use Rattle.std.proofs.lemmas.Result.{err_from_is_err_and}
use Rattle.fleet_base.specs.Bytes.{field}
use Rattle.fleet_base.proofs.Appending.{pieces_left}
use Rattle.fleet_base.proofs.number.push_fields.Goals as goal

pub returns-in_err-push_field-clause-err : goal.returns-in_err-push_field-clause-err
returns-in_err-push_field-clause-err c =
    let p = err_from_is_err_and c.from_residual.result c.from_residual.ensures.1 in
    rw p.1 (pieces_left field c.args.out.now c.loop-value.out c.push_field.new.out c.args.values.now c.loop-value.value-index 0 (omega arith) c.loop-value.invariant c.in_err-push_field.ensures.err)
