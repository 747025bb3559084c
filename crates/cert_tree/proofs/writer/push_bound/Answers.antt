use Rattle.std.proofs.Common.{map}
use Rattle.std.specs.Prelude.{codes}
use Rattle.std.proofs.lemmas.Result.{err_from_is_err_and}
use Rattle.cert_tree.specs.CertText.{path_line}
use Rattle.fleet_base.proofs.Appending.{front_first}
use Rattle.fleet_base.specs.Bytes.{text_of_lines}
use Rattle.cert_tree.proofs.writer.push_bound.Goals as goal

pub returns-in_err-push_bytes-clause-err : goal.returns-in_err-push_bytes-clause-err
returns-in_err-push_bytes-clause-err c =
    let p = err_from_is_err_and c.from_residual.result c.from_residual.ensures.1 in
    rw p.1 (front_first c.args.out.now c.push_bytes.new.out (codes "cert bound\n") (text_of_lines (map path_line c.args.paths.now)) c.in_err-push_bytes.ensures.err)
