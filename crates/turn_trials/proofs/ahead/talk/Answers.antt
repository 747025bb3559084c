use Rattle.station_api.specs.Clock.{Clock}
use Rattle.fleet_recovery.specs.Papers.{papers_in}
use Rattle.fleet_recovery.proofs.Sending.{rest_stands, rests_sending}
use Rattle.turn_trials.proofs.ahead.talk.Goals as goal

pub answer-requires-clause-stands : goal.answer-requires-clause-stands
answer-requires-clause-stands g c told =
    let papers = papers_in c.args.papers.now in
    let old : Clock = g.T.Station.clock c.begun.new.station in
    let new : Clock = g.T.Station.clock c.greet.new.station in
    rest_stands c.args.plan.now papers _ _ new (rests_sending c.args.plan.now papers _ _ old new (c.greet.ensures.sides told) (c.in_ok-fleet.ensures.rests told))
