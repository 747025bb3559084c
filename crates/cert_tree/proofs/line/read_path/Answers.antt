use Rattle.std.proofs.lemmas.Result.{err_from_is_err_and}
use Rattle.cert_tree.proofs.OtherLines.{no_path_pairs, malformed_weaker}
use Rattle.cert_tree.proofs.line.read_path.Goals as goal

pub returns-in_err-pairs-clause-malformed : goal.returns-in_err-pairs-clause-malformed
returns-in_err-pairs-clause-malformed c =
    let p = err_from_is_err_and c.from_residual.result c.from_residual.ensures.1 in
    rw (p.1, p.2)
    (malformed_weaker c.in_err-pairs.field-0.0 (no_path_pairs c.args.text.now c.in-Some.behind_robot.now c.in-Some.robot c.in-Some.ensures.some) c.in_err-pairs.ensures.malformed)
