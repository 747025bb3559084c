use Rattle.std.proofs.Common.{Err, sym, subst, ap, ◌∙◌}
use Rattle.std.specs.Prelude.{Result}
use Rattle.std.proofs.lemmas.Result.{err_from_is_err_and}
use Rattle.fleet_recovery.specs.Papers.{papers_in}
use Rattle.fleet_recovery.proofs.Sending.{stands_sending, rests_sending}
use Rattle.fleet_serve.specs.declared.outcome.StepFault.{StepFault}
use Rattle.fleet_serve.specs.declared.outcome.Turn.{Turn}
use Rattle.fleet_serve.specs.Serving.{StepLeaves}
use Rattle.fleet_serve.proofs.Courses.{course_on}
use Rattle.fleet_serve.proofs.StepMoments.{step_done, step_torn}
use Rattle.fleet_serve.proofs.report_turn.step.Goals as goal

pub returns-in_err-send_all-clause-turn : goal.returns-in_err-send_all-clause-turn
returns-in_err-send_all-clause-turn g c =
    let routes = c.args.plan.now in
    let papers = papers_in c.args.papers.now in
    let old = g.T.Station.clock c.args.station.now in
    let new = g.T.Station.clock c.send_all.new.station in
    let p = err_from_is_err_and c.from_residual-in_err-send_all.result c.from_residual-in_err-send_all.ensures.1 in
    subst (λ (r : Result Turn StepFault). StepLeaves (course_on routes papers c.args.settings.now c.args.fleet.now c.args.journal.now c.take_turn.new.fleet c.take_turn.new.journal g.T.Station.tells old new) c.args.line.now r) (sym (p.1 ∙ ap Err p.2))
    (step_torn routes papers c.args.settings.now c.args.fleet.now c.take_turn.new.fleet c.args.journal.now c.take_turn.new.journal g.T.Station.tells old (g.T.Station.clock c.take_turn.new.station) new c.args.line.now c.as_slice.result.now c.in_ok-reply.reply c.in_ok-reply.ensures.ready c.as_slice.ensures
    c.send_all.ensures.sides c.in_err-send_all.ensures.part)

pub returns-clause-turn : goal.returns-clause-turn
returns-clause-turn g c =
    step_done c.args.plan.now (papers_in c.args.papers.now) c.args.settings.now c.args.fleet.now c.take_turn.new.fleet c.args.journal.now c.take_turn.new.journal g.T.Station.tells (g.T.Station.clock c.args.station.now) (g.T.Station.clock c.take_turn.new.station) (g.T.Station.clock c.send_all.new.station) c.args.line.now
    c.as_slice.result.now c.in_ok-reply.reply c.in_ok-reply.ensures.ready c.as_slice.ensures c.send_all.ensures.sides c.in_ok-send_all.ensures.sent

pub returns-clause-stands : goal.returns-clause-stands
returns-clause-stands g c told whole =
    let sending = c.send_all.ensures.sides told in
    stands_sending _ _ _ _ _ sending.a sending.b _ (c.in_ok-reply.ensures.ready.stands told)

pub returns-clause-rests : goal.returns-clause-rests
returns-clause-rests g c told whole rest = rests_sending _ _ _ _ _ _ (c.send_all.ensures.sides told) (c.in_ok-reply.ensures.ready.rests told rest)
