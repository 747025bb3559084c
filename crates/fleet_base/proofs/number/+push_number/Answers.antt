use Rattle.std.proofs.Common.{ℕ, List, ◌≡◌, ◌+◌, ◌++◌, ◌∷◌, [], ◌/◌, ◌%◌, ◌∙◌, ap, sym, arith, decimal}
use Rattle.std.proofs.lemmas.Result.{on_ok_weaker, on_err_weaker, err_from_is_err_and}
use Rattle.std.proofs.lemmas.Fmt.{decimal_digit}
use Rattle.fleet_base.proofs.Numbers.{last_digit, before_last, all_but_last_digit}
use Rattle.fleet_base.proofs.number.+push_number.Goals as goal

pub returns-then-value-lt10-clause-ok : goal.returns-then-value-lt10-clause-ok
returns-then-value-lt10-clause-ok t c =
    let same : c.args.value % 10 ≡ c.args.value = omega arith in
    on_ok_weaker c.push.result (λ e. e ∙ ap (λ (ds : List ℕ). c.args.out.now ++ ds) (ap (λ (n : ℕ). (48 + n) ∷ []) same ∙ sym (decimal_digit c.args.value c.if-value-lt10.true))) c.push.ensures.ok

pub returns-in_err-push_number-clause-err : goal.returns-in_err-push_number-clause-err
returns-in_err-push_number-clause-err t c =
    let p = err_from_is_err_and c.from_residual.result c.from_residual.ensures.1 in
    let r = c.in_err-push_number.ensures.err in
    rw p.1 (r.0, before_last c.args.value r.0 c.if-value-lt10.false c.ranges.value.fits r.1, r.2)

pub returns-clause-ok : goal.returns-clause-ok
returns-clause-ok t c =
    on_ok_weaker c.push-2.result (λ e. last_digit c.args.out.now c.push_number.new.out c.push-2.new.self c.args.value c.if-value-lt10.false c.ranges.value.fits c.in_ok-push_number.ensures.ok e) c.push-2.ensures.ok

pub returns-clause-err : goal.returns-clause-err
returns-clause-err t c =
    on_err_weaker c.push-2.result (λ e. (decimal (c.args.value / 10), all_but_last_digit c.args.value c.if-value-lt10.false c.ranges.value.fits, e ∙ c.in_ok-push_number.ensures.ok)) c.push-2.ensures.err
