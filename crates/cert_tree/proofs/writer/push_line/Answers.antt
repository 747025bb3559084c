use Rattle.std.proofs.Common.{[], ◌∷◌, ◌++◌}
use Rattle.std.proofs.lemmas.Result.{err_from_is_err_and}
use Rattle.fleet_base.specs.Bytes.{field}
use Rattle.fleet_base.proofs.Appending.{front_first}
use Rattle.cert_tree.proofs.writer.push_line.Goals as goal

pub returns-in_err-push_words-clause-err : goal.returns-in_err-push_words-clause-err
returns-in_err-push_words-clause-err c =
    let p = err_from_is_err_and c.from_residual.result c.from_residual.ensures.1 in
    rw p.1 (front_first c.args.out.now c.push_words.new.out (c.args.words.now ++ field c.args.number) (10 ∷ []) c.in_err-push_words.ensures.err)
