use Rattle.std.proofs.lemmas.Result.{err_from_is_err_and}
use Rattle.fleet_base.proofs.Appending.{bytes_left}
use Rattle.fleet_base.proofs.text.push_bytes.Goals as goal

pub returns-in_err-push-clause-err : goal.returns-in_err-push-clause-err
returns-in_err-push-clause-err c =
    let p = err_from_is_err_and c.from_residual.result c.from_residual.ensures.1 in
    rw p.1 (bytes_left c.args.out.now c.loop-byte.out c.push.new.self c.args.bytes.now c.loop-byte.byte-index c.loop-byte.invariant c.in_err-push.ensures.err)
