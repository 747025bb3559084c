use Rattle.std.proofs.Common.{◌++◌, sym, ◌∙◌, ap, arith}
use Rattle.std.specs.Fmt.{decimal}
use Rattle.std.proofs.lemmas.Result.{IfOk-equal}
use Rattle.fleet_base.specs.Bytes.{numeral}
use Rattle.plan_text.proofs.Numerals.{numeral-decimal}
use Rattle.plan_text.proofs.spelling.push_numeral.Goals as goal

pub returns : goal.returns
returns c =
    IfOk-equal c.push_number.result c.push_number.new.out (c.args.out.now ++ decimal c.from.result) (c.args.out.now ++ numeral c.args.number) c.push_number.ensures.ok (ap (λ n. c.args.out.now ++ decimal n) c.from.ensures ∙ ap (λ ds. c.args.out.now ++ ds) (sym (numeral-decimal c.args.number (omega arith))))
