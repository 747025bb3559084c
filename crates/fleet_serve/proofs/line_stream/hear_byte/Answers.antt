use Rattle.std.proofs.Common.{◌≡◌, ◌∷◌, [], ℕ, List, Result, Ok, Err, length, refl, sym, ap, ◌∙◌, subst, arith}
use Rattle.std.proofs.lemmas.Result.{err_from_is_err_and}
use Rattle.fleet_base.specs.Bytes.{without_cr}
use Rattle.fleet_serve.specs.declared.outcome.StepFault.{StepFault}
use Rattle.fleet_recovery.specs.Papers.{papers_in}
use Rattle.fleet_serve.specs.Serving.{Course}
use Rattle.fleet_serve.proofs.Courses.{course_on}
use Rattle.fleet_serve.specs.Reading.{kept_of, Hears}
use Rattle.fleet_base.proofs.Pieces.{without_cr-shorter}
use Rattle.fleet_serve.proofs.StepMoments.{resting}
use Rattle.fleet_serve.proofs.GoingOn.{byte_heard, memory_heard, line_fault, line_served}
use Rattle.fleet_serve.proofs.line_stream.hear_byte.Goals as goal

pub returns-then-byte-ne10-clause-heard : goal.returns-then-byte-ne10-clause-heard
returns-then-byte-ne10-clause-heard g c line begun e =
    let s = c.args.session.now in
    let clock = g.T.Station.clock c.args.station.now in
    let papers = papers_in s.papers.now in
    byte_heard (course_on s.plan.now papers s.settings.now c.args.fleet.now c.args.journal.now c.args.fleet.now c.args.journal.now g.T.Station.tells clock clock) line c.push_kept.new.kept c.args.byte refl
    (resting s.plan.now papers s.settings.now c.args.fleet.now c.args.journal.now g.T.Station.tells clock []) refl c.if-byte-ne10.true begun (c.in_ok-push_kept.ensures.ok line e)

pub returns-in_err-push_kept-clause-heard : goal.returns-in_err-push_kept-clause-heard
returns-in_err-push_kept-clause-heard g c line begun e =
    let s = c.args.session.now in
    let clock = g.T.Station.clock c.args.station.now in
    let papers = papers_in s.papers.now in
    let course = course_on s.plan.now papers s.settings.now c.args.fleet.now c.args.journal.now c.args.fleet.now c.args.journal.now g.T.Station.tells clock clock in
    let p = err_from_is_err_and c.from_residual.result c.from_residual.ensures.1 in
    subst (λ (r : Result (Unit {0}) StepFault). Hears course line (c.args.byte ∷ []) c.push_kept.new.kept r) (sym (p.1 ∙ ap Err p.2))
    (memory_heard course line (c.args.byte ∷ []) c.push_kept.new.kept refl (resting s.plan.now papers s.settings.now c.args.fleet.now c.args.journal.now g.T.Station.tells clock []) refl)

pub step-requires-clause-line : goal.step-requires-clause-line
step-requires-clause-line g c = omega (arith, ap length c.without_return-line.ensures, ap length c.as_slice.ensures, without_cr-shorter c.as_slice.result.now, c.requires.short)

pub returns-in_err-step-clause-heard : goal.returns-in_err-step-clause-heard
returns-in_err-step-clause-heard g c line begun e =
    let s : Course = course_on c.args.session.now.plan.now (papers_in c.args.session.now.papers.now) c.args.session.now.settings.now c.args.fleet.now c.args.journal.now c.step.new.fleet c.step.new.journal g.T.Station.tells (g.T.Station.clock c.args.station.now) (g.T.Station.clock c.step.new.station) in
    let fault = c.in_err-step.field-0.0 in
    let p = err_from_is_err_and c.from_residual-in_err-step.result c.from_residual-in_err-step.ensures.1 in
    let ten : 10 ≡ c.args.byte = sym c.if-byte-ne10.false in
    let part : c.without_return-line.result.now ≡ without_cr (kept_of line) = c.without_return-line.ensures ∙ ap without_cr (c.as_slice.ensures ∙ e) in
    subst (λ (r : Result (Unit {0}) StepFault). Hears s line (c.args.byte ∷ []) c.args.kept.now r) (sym (p.1 ∙ ap Err p.2))
    (subst (λ (b : ℕ). Hears s line (b ∷ []) c.args.kept.now (Err fault)) ten (line_fault s line c.without_return-line.result.now c.args.kept.now fault begun part c.in_err-step.ensures.turn))

pub returns-clause-heard : goal.returns-clause-heard
returns-clause-heard g c line begun e =
    let s : Course = course_on c.args.session.now.plan.now (papers_in c.args.session.now.papers.now) c.args.session.now.settings.now c.args.fleet.now c.args.journal.now c.step.new.fleet c.step.new.journal g.T.Station.tells (g.T.Station.clock c.args.station.now) (g.T.Station.clock c.step.new.station) in
    let ten : 10 ≡ c.args.byte = sym c.if-byte-ne10.false in
    let part : c.without_return-line.result.now ≡ without_cr (kept_of line) = c.without_return-line.ensures ∙ ap without_cr (c.as_slice.ensures ∙ e) in
    subst (λ (k : List ℕ). Hears s line (c.args.byte ∷ []) k (Ok (record {}))) (sym c.new.ensures)
    (subst (λ (b : ℕ). Hears s line (b ∷ []) [] (Ok (record {}))) ten (line_served s line c.without_return-line.result.now c.in_ok-step.field-0 begun part c.in_ok-step.ensures.turn))
