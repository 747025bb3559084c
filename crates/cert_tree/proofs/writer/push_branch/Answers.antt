use Rattle.std.proofs.Common.{[], ◌∷◌, ◌++◌, ◌∙◌, ap, sym}
use Rattle.std.specs.Prelude.{codes}
use Rattle.std.proofs.lemmas.List.{append-nil}
use Rattle.std.proofs.lemmas.Result.{on_ok_weaker}
use Rattle.fleet_base.specs.Bytes.{field}
use Rattle.cert_tree.proofs.writer.push_branch.Goals as goal

pub returns-clause-ok : goal.returns-clause-ok
returns-clause-ok c =
    let old = c.args.out.now in
    on_ok_weaker c.push_line.result (λ e. e ∙ ap (λ n. old ++ (codes "cert branch" ++ field n ++ 10 ∷ [])) c.from.ensures ∙ ap (λ l. old ++ l) (sym (append-nil (codes "cert branch" ++ field c.args.pair.0 ++ 10 ∷ [])))) c.push_line.ensures.ok
