use Rattle.std.proofs.Common.{◌∷◌, ◌++◌, [], ℕ, List, ap, ◌∙◌, arith, length}
use Rattle.std.proofs.lemmas.Result.{on_ok_weaker}
use Rattle.fleet_serve.proofs.Texts.{kept_more, kept_full}
use Rattle.fleet_serve.proofs.kept_line.push_kept.Goals as goal

pub returns-then-as_slice-lt-KEPT-clause-ok : goal.returns-then-as_slice-lt-KEPT-clause-ok
returns-then-as_slice-lt-KEPT-clause-ok c line e =
    let n = ap length e in
    let m = ap length c.as_slice.ensures in
    on_ok_weaker c.push.result (λ p. p ∙ ap (λ (l : List ℕ). l ++ c.args.byte ∷ []) e ∙ kept_more line c.args.byte (omega (arith, n, m, c.if-as_slice-lt-KEPT.true))) c.push.ensures.ok

pub returns-else-as_slice-lt-KEPT-clause-ok : goal.returns-else-as_slice-lt-KEPT-clause-ok
returns-else-as_slice-lt-KEPT-clause-ok c line e =
    let n = ap length e in
    let m = ap length c.as_slice.ensures in
    e ∙ kept_full line c.args.byte (omega (arith, n, m, c.if-as_slice-lt-KEPT.false))
