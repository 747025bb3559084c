-- A number that does not fit is no number below 2^32, since a text takes one number.
use Rattle.std.proofs.Common.{◌≤◌, ◌^◌, arith}
use Rattle.fleet_base.proofs.Numbers.{too_large}
use Rattle.cert_tree.proofs.FieldLaws.{taken_once}
use Rattle.cert_tree.proofs.fields.small_number.Goals as goal

pub returns-in_err-ok-clause-none : goal.returns-in_err-ok-clause-none
returns-in_err-ok-clause-none c =
    let large : 2 ^ 32 ≤ c.in_ok-value.value = too_large c.try_from.result c.in_ok-value.value (2 ^ 32) c.try_from.ensures c.in_err-ok.ensures.value in
    rw c.from_residual-in_err-ok.ensures
    (λ n rest takes. omega (arith, large, takes.1, (taken_once (2 ^ 32) c.args.text.now c.in_ok-value.rest.now rest c.in_ok-value.value n (omega arith) c.in_ok-value.ensures.some takes).0))
