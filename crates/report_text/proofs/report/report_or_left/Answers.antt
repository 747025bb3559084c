-- A line that begins with `d` begins no line of the other kind, and the other lines begin none of this one.
use Rattle.std.proofs.Common.{ℕ, List, [], ◌∷◌, true, false, get_or, refl, sym, ap, ◌∙◌, arith}
use Rattle.std.proofs.lemmas.Result.{IfErr-weaker}
use Rattle.std.proofs.lemmas.Bool.{false≢true}
use Rattle.std.proofs.lemmas.Bool.Decides.{Decides-eqb}
use Rattle.std.proofs.lemmas.Slice.Eq.{starts_is}
use Rattle.report_text.proofs.ReportLines.{stops_as_arrive, stops_as_delay}
use Rattle.report_text.proofs.report.report_or_left.Goals as goal

pub returns-then-starts_with-clause-err : goal.returns-then-starts_with-clause-err
returns-then-starts_with-clause-err c =
    let line = c.args.line.now in
    let first = (starts_is Decides-eqb line (100 ∷ []) true c.if-starts_with.ensures.value).0 refl in
    IfErr-weaker c.delay_or_left.result _ _ (λ left s. stops_as_delay line left.now (λ rest e. omega (arith, ap (λ (l : List ℕ). get_or l 0 0) (sym first ∙ e))) s) c.delay_or_left.ensures.err

pub returns-else-starts_with-clause-err : goal.returns-else-starts_with-clause-err
returns-else-starts_with-clause-err c =
    let line = c.args.line.now in
    let other = (starts_is Decides-eqb line (100 ∷ []) false c.if-starts_with.ensures.value).1 in
    IfErr-weaker c.arrive_or_left.result _ _ (λ left s. stops_as_arrive line left.now (λ rest e. false≢true (other rest e)) s) c.arrive_or_left.ensures.err
