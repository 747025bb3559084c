use Rattle.std.proofs.Common.{Err, [], refl, sym, subst, append-nil}
use Rattle.fleet_base.specs.Order.{Graph}
use Rattle.fleet_base.specs.Rules.{IsFleetState}
use Rattle.fleet_recovery.specs.Papers.{papers_in}
use Rattle.fleet_recovery.proofs.Replays.{told_on}
use Rattle.fleet_serve.specs.declared.outcome.StepFault.{StepFault}
use Rattle.fleet_serve.specs.declared.outcome.StepFault.TheVariants.{Station, Memory}
use Rattle.fleet_serve.specs.Serving.{StepLeaves}
use Rattle.fleet_serve.proofs.Courses.{course_on}
use Rattle.fleet_serve.proofs.StepMoments.{resting, said_ready, frame_fits, entry_leads, entry_step, kept_ready, step_broken}
use Rattle.fleet_serve.proofs.report_turn.take_turn.Goals.{in-Say, in-Keep+in_ok-keep-in-Keep}
use Rattle.fleet_serve.proofs.report_turn.take_turn.Goals as goal

pub returns-in_err-reply-clause-broken : goal.returns-in_err-reply-clause-broken
returns-in_err-reply-clause-broken g c =
    let s = c.args.session.now in
    let clock = g.T.Station.clock c.args.station.now in
    let course = course_on s.plan.now (papers_in s.papers.now) s.settings.now c.args.fleet.now c.args.journal.now c.args.fleet.now c.args.journal.now g.T.Station.tells clock clock in
    told_on _ c.from_residual.result Memory (λ (fault : StepFault). StepLeaves course c.args.line.now (Err fault)) c.from_residual.ensures.1
    (refl, resting s.plan.now (papers_in s.papers.now) s.settings.now c.args.fleet.now c.args.journal.now g.T.Station.tells clock [], λ told. sym (append-nil clock.seen.sent))

pub keep-requires-clause-room : goal.keep-requires-clause-room
keep-requires-clause-room g c =
    let s = c.args.session.now in
    let rules = subst (λ (h : Graph). IsFleetState h c.args.fleet.now) c.requires.graph c.requires.state in
    frame_fits s.plan.now (papers_in s.papers.now) s.settings.now c.args.fleet.now c.args.journal.now g.T.Station.tells (g.T.Station.clock c.args.station.now) c.args.line.now rules c.requires.stands
    c.in-Keep.entry c.in-Keep.frame c.in-Keep.text (rw c.in-Keep.is at c.in_ok-reply.ensures.decided)

pub returns-in_err-keep-in-Keep-clause-broken : goal.returns-in_err-keep-in-Keep-clause-broken
returns-in_err-keep-in-Keep-clause-broken g c =
    let s = c.args.session.now in
    let routes = s.plan.now in
    let papers = papers_in s.papers.now in
    let settings = s.settings.now in
    let old = g.T.Station.clock c.args.station.now in
    let rules = subst (λ (h : Graph). IsFleetState h c.args.fleet.now) c.requires.graph c.requires.state in
    let decided = rw c.in-Keep.is at c.in_ok-reply.ensures.decided in
    let leads = entry_leads routes papers settings c.args.fleet.now c.args.journal.now g.T.Station.tells old c.args.line.now rules c.requires.stands c.in-Keep.entry c.in-Keep.frame c.in-Keep.text decided in
    let new = g.T.Station.clock c.keep.new.station in
    let course = course_on routes papers settings c.args.fleet.now c.args.journal.now c.keep.new.fleet c.keep.new.journal g.T.Station.tells old new in
    told_on _ c.from_residual-in_err-keep-in-Keep.result Station (λ (fault : StepFault). StepLeaves course c.args.line.now (Err fault)) c.from_residual-in_err-keep-in-Keep.ensures.1
    (step_broken routes papers settings c.args.fleet.now c.keep.new.fleet c.args.journal.now c.keep.new.journal g.T.Station.tells old new c.args.line.now c.in-Keep.entry c.in-Keep.frame c.in-Keep.text decided
    (λ told rest. c.keep.ensures.any_moment told routes papers decided.6.frame_is.0 decided.1.after.state decided.6.frame_is.2 leads rest) c.keep.ensures.unsent)

pub returns-clause-ready : goal.returns-clause-ready
returns-clause-ready g c =
    let s = c.args.session.now in
    let routes = s.plan.now in
    let papers = papers_in s.papers.now in
    let settings = s.settings.now in
    let old = g.T.Station.clock c.args.station.now in
    let rules = subst (λ (h : Graph). IsFleetState h c.args.fleet.now) c.requires.graph c.requires.state in
    elim c.match-branch-2.branch [
      | in-Say w ↦ rw (w.result-is, w.fleet-is, w.journal-is, w.station-is) (said_ready routes papers settings c.args.fleet.now c.args.journal.now g.T.Station.tells old c.args.line.now rules c.requires.stands w.in-Say.reply (rw w.in-Say.is at c.in_ok-reply.ensures.decided))
      | in-Keep+in_ok-keep-in-Keep w ↦
          let entry = w.in-Keep.entry in
          let frame = w.in-Keep.frame in
          let text = w.in-Keep.text in
          let decided = rw w.in-Keep.is at c.in_ok-reply.ensures.decided in
          let leads = entry_leads routes papers settings c.args.fleet.now c.args.journal.now g.T.Station.tells old c.args.line.now rules c.requires.stands entry frame text decided in
          let step = entry_step routes papers settings c.args.fleet.now c.args.journal.now g.T.Station.tells old c.args.line.now rules c.requires.stands entry frame text decided in
          let payload = decided.6.frame_is.0 in
          let after = decided.1.after.state in
          rw (w.result-is, w.fleet-is, w.journal-is, w.station-is)
          (kept_ready routes papers settings c.args.fleet.now c.args.journal.now g.T.Station.tells old c.args.line.now rules c.requires.stands entry frame text decided w.keep.new.fleet w.keep.new.journal (g.T.Station.clock w.keep.new.station) w.count-count.result
          (w.in_ok-keep-in-Keep.ensures.steps _ after rules step) w.in_ok-keep-in-Keep.ensures.place w.count-count.ensures
          (λ told. w.in_ok-keep-in-Keep.ensures.stands told routes papers payload after decided.6.frame_is.2 leads (c.requires.stands told))
          (λ told rest. w.in_ok-keep-in-Keep.ensures.rests told routes papers payload after decided.6.frame_is.2 leads rest)
          (λ told rest. w.keep.ensures.any_moment told routes papers payload after decided.6.frame_is.2 leads rest) w.keep.ensures.unsent)
    ]

pub returns-clause-rules : goal.returns-clause-rules
returns-clause-rules g c =
    elim c.match-branch-2.branch [
      | in-Say w ↦ rw w.fleet-is c.requires.state
      | in-Keep+in_ok-keep-in-Keep w ↦ subst (λ (h : Graph). IsFleetState h c.match-branch-2.fleet) (sym c.requires.graph) (rw w.result-is at (returns-clause-ready g c)).rules
    ]
