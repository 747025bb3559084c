use Rattle.std.proofs.Common.{[], ◌∷◌, length}
use Rattle.std.proofs.lemmas.Result.{err_from_is_err_and}
use Rattle.fleet_base.specs.Bytes.{field}
use Rattle.cert_tree.specs.CertText.{pair_fields, pair_numbers}
use Rattle.fleet_base.proofs.Appending.{front_first, front_behind}
use Rattle.cert_tree.proofs.writer.push_pairs.Goals as goal

pub returns-in_err-push_field-clause-err : goal.returns-in_err-push_field-clause-err
returns-in_err-push_field-clause-err c =
    let p = err_from_is_err_and c.from_residual.result c.from_residual.ensures.1 in
    let pairs = c.args.pairs.now in
    rw p.1
    (front_first c.args.out.now c.push_field.new.out (pair_fields pairs) (10 ∷ []) (front_first c.args.out.now c.push_field.new.out (field (length pairs)) (pair_numbers pairs) c.in_err-push_field.ensures.err))

pub returns-in_err-push_pair_numbers-clause-err : goal.returns-in_err-push_pair_numbers-clause-err
returns-in_err-push_pair_numbers-clause-err c =
    let p = err_from_is_err_and c.from_residual-in_err-push_pair_numbers.result c.from_residual-in_err-push_pair_numbers.ensures.1 in
    let pairs = c.args.pairs.now in
    rw p.1
    (front_first c.args.out.now c.push_pair_numbers.new.out (pair_fields pairs) (10 ∷ []) (front_behind c.args.out.now c.push_field.new.out c.push_pair_numbers.new.out (field (length pairs)) (pair_numbers pairs) c.in_ok-push_field.ensures.ok c.in_err-push_pair_numbers.ensures.err))
