use Rattle.std.proofs.Common.{[], ◌∷◌, ◌++◌, sym, subst, append_assoc}
use Rattle.std.specs.Prelude.{codes}
use Rattle.std.proofs.lemmas.Result.{err_from_is_err_and, on_err_weaker}
use Rattle.fleet_base.specs.Bytes.{field, AppendsFront}
use Rattle.cert_tree.specs.CertText.{pair_fields, side_word}
use Rattle.fleet_base.proofs.Appending.{front_first, front_behind, both}
use Rattle.cert_tree.proofs.writer.push_force.Goals as goal

pub returns-in_err-push_words-clause-err : goal.returns-in_err-push_words-clause-err
returns-in_err-push_words-clause-err c =
    let p = err_from_is_err_and c.from_residual.result c.from_residual.ensures.1 in
    let old = c.args.out.now in
    let new = c.push_words.new.out in
    let words = codes "cert force" ++ field c.from.result in
    let side = side_word c.args.side in
    let cycle = pair_fields c.args.cycle.now in
    rw (p.1, sym c.from.ensures) (front_first old new (words ++ side ++ cycle ++ 10 ∷ []) [] (front_first old new (words ++ side ++ cycle) (10 ∷ []) (front_first old new (words ++ side) cycle (front_first old new words side c.in_err-push_words.ensures.err))))

pub returns-in_err-push_bytes-clause-err : goal.returns-in_err-push_bytes-clause-err
returns-in_err-push_bytes-clause-err c =
    let p = err_from_is_err_and c.from_residual-in_err-push_bytes.result c.from_residual-in_err-push_bytes.ensures.1 in
    let old = c.args.out.now in
    let new = c.push_bytes.new.out in
    let words = codes "cert force" ++ field c.from.result in
    let side = side_word c.args.side in
    let cycle = pair_fields c.args.cycle.now in
    rw (p.1, sym c.from.ensures) (front_first old new (words ++ side ++ cycle ++ 10 ∷ []) [] (front_first old new (words ++ side ++ cycle) (10 ∷ []) (front_first old new (words ++ side) cycle (front_behind old c.push_words.new.out new words side c.in_ok-push_words.ensures.ok (rw c.side_bytes.ensures at c.in_err-push_bytes.ensures.err)))))

pub returns-clause-err : goal.returns-clause-err
returns-clause-err c =
    let old = c.args.out.now in
    let new = c.push_pairs.new.out in
    let words = codes "cert force" ++ field c.from.result in
    let side = side_word c.args.side in
    let cycle = pair_fields c.args.cycle.now in
    rw (sym c.from.ensures)
    (on_err_weaker c.push_pairs.result (λ left. front_first old new (words ++ side ++ cycle ++ 10 ∷ []) [] (subst (λ l. AppendsFront old new l) (sym (append_assoc (words ++ side) cycle (10 ∷ []))) (front_behind old c.push_bytes.new.out new (words ++ side) (cycle ++ 10 ∷ []) (both old c.push_words.new.out c.push_bytes.new.out words side c.in_ok-push_words.ensures.ok (rw c.side_bytes.ensures at c.in_ok-push_bytes.ensures.ok)) left))) c.push_pairs.ensures.err)
