-- Each number that is read is one more; where one is missing, reading stops in the line.
use Rattle.std.proofs.Common.{ℕ, ◌≢◌, ◌<◌, List, ◌∙◌, sym, subst, length, take, arith, length-take, length-set}
use Rattle.std.proofs.lemmas.List.{take_more_set, take_all, length-replicate}
use Rattle.std.proofs.lemmas.Bool.{eqb-true, eqb-false}
use Rattle.std.proofs.lemmas.Result.{err_from_is_err_and}
use Rattle.report_text.proofs.Spelling.{HasRead, has_read_words, has_read_more, has_read_fails, has_read_too_little, has_read_all, spelled_breaks_off}
use Rattle.report_text.proofs.reading.numbers_or_left.Goals as goal

pub returns-in_err-rest-clause-err : goal.returns-in_err-rest-clause-err
returns-in_err-rest-clause-err g c =
    let p = err_from_is_err_and c.from_residual.result c.from_residual.ensures.1 in
    rw (p.1, p.2) (spelled_breaks_off c.args.words.now g.row.N c.args.line.now c.in_err-rest.field-0.0.now c.in_err-rest.ensures.err)

pub loop-number-init : goal.loop-number-init
loop-number-init g c =
    (length-replicate {A = ℕ} g.row.N 0, has_read_words c.args.words.now g.row.N c.args.line.now c.in_ok-rest.rest.now c.in_ok-rest.ensures.ok)

pub returns-in_err-value-clause-err : goal.returns-in_err-value-clause-err
returns-in_err-value-clause-err g c =
    let p = err_from_is_err_and c.from_residual-in_err-value.result c.from_residual-in_err-value.ensures.1 in
    let done = take c.loop-number.number-index c.loop-number.number-items in
    let more : length done < g.row.N = omega (arith, length-take c.loop-number.number-index c.loop-number.number-items) in
    rw (p.1, p.2)
    (has_read_fails c.args.words.now g.row.N c.args.line.now done c.loop-number.rest.now c.in_err-value.field-0.0.now c.loop-number.invariant.1 more c.in_err-value.ensures.err)

pub loop-number-preserved : goal.loop-number-preserved
loop-number-preserved g c =
    let items = c.loop-number.number-items in
    let i = c.loop-number.number-index in
    let inside : i < length items = omega arith in
    let more : length (take i items) < g.row.N = omega (arith, length-take i items) in
    let read = has_read_more c.args.words.now g.row.N c.args.line.now (take i items) c.loop-number.rest.now c.in_ok-value.value c.in_ok-value.after.now c.loop-number.invariant.1 more c.in_ok-value.ensures.ok in (
      length-set items i c.in_ok-value.value ∙ c.loop-number.invariant.0,
      subst (λ (ns : List ℕ). HasRead c.args.words.now g.row.N c.args.line.now ns c.in_ok-value.after.now) (sym (take_more_set items i c.in_ok-value.value inside)) read,
    )

pub returns-then-is_empty-clause-ok : goal.returns-then-is_empty-clause-ok
returns-then-is_empty-clause-ok g c =
    let items = c.loop-number.number-items in
    let whole = take_all c.loop-number.number-index items (omega arith) in
    let read = subst (λ (ns : List ℕ). HasRead c.args.words.now g.row.N c.args.line.now ns c.loop-number.rest.now) whole c.loop-number.invariant.1 in
    has_read_all c.args.words.now g.row.N c.args.line.now items c.loop-number.rest.now read (eqb-true (length c.loop-number.rest.now) 0 (sym c.if-is_empty.ensures))

pub returns-else-is_empty-clause-err : goal.returns-else-is_empty-clause-err
returns-else-is_empty-clause-err g c =
    let items = c.loop-number.number-items in
    let whole = take_all c.loop-number.number-index items (omega arith) in
    let read = subst (λ (ns : List ℕ). HasRead c.args.words.now g.row.N c.args.line.now ns c.loop-number.rest.now) whole c.loop-number.invariant.1 in
    let some : length c.loop-number.rest.now ≢ 0 = eqb-false (length c.loop-number.rest.now) 0 (sym c.if-is_empty.ensures) in
    has_read_too_little c.args.words.now g.row.N c.args.line.now items c.loop-number.rest.now read c.loop-number.invariant.0 (omega arith)
