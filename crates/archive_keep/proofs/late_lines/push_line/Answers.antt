use Rattle.std.proofs.lemmas.Result.{err_from_is_err_and}
use Rattle.archive_keep.proofs.LateText.{words_left, numbers_left}
use Rattle.archive_keep.proofs.late_lines.push_line.Goals as goal

pub returns-in_err-push_bytes-clause-err : goal.returns-in_err-push_bytes-clause-err
returns-in_err-push_bytes-clause-err c =
    let p = err_from_is_err_and c.from_residual.result c.from_residual.ensures.1 in
    rw p.1 (words_left c.args.out.now c.push_bytes.new.out c.args.words.now c.args.numbers.now c.in_err-push_bytes.ensures.err)

pub returns-in_err-push_fields-clause-err : goal.returns-in_err-push_fields-clause-err
returns-in_err-push_fields-clause-err c =
    let p = err_from_is_err_and c.from_residual-in_err-push_fields.result c.from_residual-in_err-push_fields.ensures.1 in
    rw p.1
    (numbers_left c.args.out.now c.push_bytes.new.out c.push_fields.new.out c.args.words.now c.args.numbers.now c.in_ok-push_bytes.ensures.ok c.in_err-push_fields.ensures.err)
