use Rattle.std.proofs.Common.{[], ◌∷◌, ◌++◌, sym, subst, append_assoc}
use Rattle.std.proofs.Common.{arith}
use Rattle.std.proofs.lemmas.Result.{on_ok_weaker}
use Rattle.cert_tree.specs.CertText.{HavePairNumbers}
use Rattle.std.specs.Prelude.{codes}
use Rattle.std.proofs.lemmas.Result.{err_from_is_err_and, on_err_weaker}
use Rattle.fleet_base.specs.Bytes.{field, AppendsFront}
use Rattle.cert_tree.specs.CertText.{pair_fields}
use Rattle.fleet_base.proofs.Appending.{front_first, front_behind}
use Rattle.cert_tree.proofs.writer.push_path.Goals as goal

pub returns-in_err-push_words-clause-err : goal.returns-in_err-push_words-clause-err
returns-in_err-push_words-clause-err c =
    let p = err_from_is_err_and c.from_residual.result c.from_residual.ensures.1 in
    let path = c.args.path.now in
    let words = codes "cert path" ++ field c.from.result in
    rw (p.1, sym c.from.ensures)
    (front_first c.args.out.now c.push_words.new.out (words ++ pair_fields path.pairs) (10 ∷ []) (front_first c.args.out.now c.push_words.new.out words (pair_fields path.pairs) c.in_err-push_words.ensures.err))

pub returns-clause-err : goal.returns-clause-err
returns-clause-err c =
    let path = c.args.path.now in
    let words = codes "cert path" ++ field c.from.result in
    rw (sym c.from.ensures)
    (on_err_weaker c.push_pairs.result (λ left. subst (λ l. AppendsFront c.args.out.now c.push_pairs.new.out l) (sym (append_assoc words (pair_fields path.pairs) (10 ∷ []))) (front_behind c.args.out.now c.push_words.new.out c.push_pairs.new.out words (pair_fields path.pairs ++ 10 ∷ []) c.in_ok-push_words.ensures.ok left)) (rw c.as_slice.ensures at c.push_pairs.ensures.err))

pub returns-clause-numbers : goal.returns-clause-numbers
returns-clause-numbers c = on_ok_weaker c.push_pairs.result (λ n. (omega arith, subst HavePairNumbers c.as_slice.ensures n)) c.push_pairs.ensures.numbers
