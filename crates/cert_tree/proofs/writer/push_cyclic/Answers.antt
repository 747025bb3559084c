use Rattle.std.proofs.Common.{[], ◌∷◌, ◌++◌}
use Rattle.std.specs.Prelude.{codes}
use Rattle.std.proofs.lemmas.Result.{err_from_is_err_and}
use Rattle.cert_tree.specs.CertText.{pair_fields}
use Rattle.fleet_base.proofs.Appending.{front_first}
use Rattle.cert_tree.proofs.writer.push_cyclic.Goals as goal

pub returns-in_err-push_bytes-clause-err : goal.returns-in_err-push_bytes-clause-err
returns-in_err-push_bytes-clause-err c =
    let p = err_from_is_err_and c.from_residual.result c.from_residual.ensures.1 in
    rw p.1 (front_first c.args.out.now c.push_bytes.new.out (codes "cert cyclic") ((pair_fields c.args.cycle.now ++ 10 ∷ []) ++ []) c.in_err-push_bytes.ensures.err)
