use Rattle.std.proofs.Common.{[], ◌∷◌, ◌++◌, ◌∙◌, ap, subst, take, arith}
use Rattle.std.proofs.lemmas.Grind.{common_steps}
use Rattle.std.proofs.lemmas.List.Elements.{All-more}
use Rattle.cert_tree.specs.CertText.{IsNumbered}
use Rattle.std.proofs.lemmas.Result.{err_from_is_err_and}
use Rattle.cert_tree.specs.declared.node.CertPath.{CertPath}
use Rattle.cert_tree.specs.CertText.{path_line}
use Rattle.fleet_base.specs.Bytes.{AppendsFront}
use Rattle.fleet_base.proofs.Appending.{pieces_left}
use Rattle.cert_tree.proofs.Appending.{text_by_paths}
use Rattle.cert_tree.proofs.writer.push_paths.Goals as goal

pub returns-in_err-push_path-clause-err : goal.returns-in_err-push_path-clause-err
returns-in_err-push_path-clause-err c =
    let p = err_from_is_err_and c.from_residual.result c.from_residual.ensures.1 in
    let paths = c.args.paths.now in
    let i = c.loop-path.path-index in
    rw (p.1, text_by_paths paths)
    (pieces_left (λ (q : CertPath). path_line q ++ 10 ∷ []) c.args.out.now c.loop-path.out c.push_path.new.out paths i c.path-item.result (omega arith) (c.loop-path.invariant.0 ∙ ap (λ l. c.args.out.now ++ l) (text_by_paths (take i paths))) (subst (λ q. AppendsFront c.loop-path.out c.push_path.new.out (path_line q ++ 10 ∷ [])) c.path-item.is c.in_err-push_path.ensures.err))

pub loop-path-preserved : goal.loop-path-preserved
loop-path-preserved c = (grind (arith, common_steps), All-more IsNumbered c.args.paths.now c.loop-path.path-index c.path-item.result c.loop-path-test.true c.loop-path.invariant.1 (subst IsNumbered c.path-item.is c.in_ok-push_path.ensures.numbers))
