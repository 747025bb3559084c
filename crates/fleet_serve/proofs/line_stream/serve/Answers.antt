use Rattle.std.proofs.Common.{refl, [], ◌++◌, take, drop, Err, ap, ◌∙◌, arith}
use Rattle.std.proofs.lemmas.Result.{err_from_is_err_and}
use Rattle.std.proofs.lemmas.List.{length-take}
use Rattle.station_api.specs.Clock.{Clock}
use Rattle.fleet_serve.proofs.StepMoments.{resting}
use Rattle.fleet_recovery.specs.Opening.{IsAtRest}
use Rattle.fleet_recovery.specs.Papers.{papers_in}
use Rattle.fleet_serve.specs.Serving.{point_of}
use Rattle.fleet_serve.proofs.Courses.{course_on}
use Rattle.fleet_serve.specs.Reading.{unfinished}
use Rattle.fleet_recovery.proofs.Passing.{counted_on}
use Rattle.fleet_serve.proofs.Moments.{counted_self}
use Rattle.fleet_serve.proofs.Pieces.{unfinished_is}
use Rattle.fleet_serve.proofs.GoingOn.{nothing_served, chunk_taken, chunk_length, session_goes_on, session_ends, limit_reached}
use Rattle.fleet_serve.proofs.line_stream.serve.Goals as goal

pub loop-left-preserved : goal.loop-left-preserved
loop-left-preserved g c =
    let h = c.loop-left.invariant.served in
    let routes = c.args.plan.now in
    let papers = papers_in c.args.papers.now in
    let settings = c.args.settings.now in
    let behind = drop c.min-size.result c.loop-left.room in
    let chunk = take c.in-Ok.count (c.read.new.room ++ behind) in
    let old : Clock = g.T.Station.clock c.args.station.now in
    let mid : Clock = g.T.Station.clock c.loop-left.station in
    let new : Clock = g.T.Station.clock c.hear_all.new.station in
    record {
      served = session_goes_on routes papers settings (point_of c.args.fleet.now c.args.journal.now) (point_of c.loop-left.fleet c.loop-left.journal) (point_of c.hear_all.new.fleet c.hear_all.new.journal) g.T.Station.tells
          (IsAtRest routes papers c.args.journal.now c.args.fleet.now old) (IsAtRest routes papers c.loop-left.journal c.loop-left.fleet mid) c.loop-left.invariant.rests old mid new c.args.settings.now.input_limit c.loop-left.left c.in-Ok.count c.in-Ok.count c.loop-left.kept c.hear_all.new.kept (g.S.Source.left c.read.new.self) chunk _ h
          (λ told. chunk_taken _ _ _ c.read.new.room behind c.in-Ok.count (c.in-Ok.ensures.bytes told) c.in-Ok.ensures.bound)
          (chunk_length c.read.new.room behind c.in-Ok.count c.in-Ok.ensures.bound)
          (omega (arith, c.in-Ok.ensures.bound, c.read.auto.room, length-take c.min-size.result c.loop-left.room, c.min-size.ensures))
          (c.in_ok-hear_all-in-Ok.ensures.heard (unfinished h.taken) (unfinished_is h.taken) h.kept_is) c.hear_all.ensures.short;
      rules = c.hear_all.ensures.rules;
      room = c.hear_all.ensures.room;
      stands = λ told. c.in_ok-hear_all-in-Ok.ensures.stands told (λ is. cc);
      rests = λ told rest. c.in_ok-hear_all-in-Ok.ensures.rests told (λ is. cc) (c.loop-left.invariant.rests told rest);
      source_counted = counted_on _ _ _ c.loop-left.invariant.source_counted c.read.ensures.cause.counted;
      station_counted = counted_on _ _ _ c.loop-left.invariant.station_counted c.hear_all.ensures.counted;
    }

pub returns-in_err-hear_all-in-Ok-clause-served : goal.returns-in_err-hear_all-in-Ok-clause-served
returns-in_err-hear_all-in-Ok-clause-served g c =
    let h = c.loop-left.invariant.served in
    let routes = c.args.plan.now in
    let papers = papers_in c.args.papers.now in
    let settings = c.args.settings.now in
    let behind = drop c.min-size.result c.loop-left.room in
    let chunk = take c.in-Ok.count (c.read.new.room ++ behind) in
    let old : Clock = g.T.Station.clock c.args.station.now in
    let mid : Clock = g.T.Station.clock c.loop-left.station in
    let new : Clock = g.T.Station.clock c.hear_all.new.station in
    let fault = c.in_err-hear_all-in-Ok.field-0.0 in
    let p = err_from_is_err_and c.from_residual.result c.from_residual.ensures.1 in
    let ends = session_ends routes papers settings (point_of c.args.fleet.now c.args.journal.now) (point_of c.loop-left.fleet c.loop-left.journal) (point_of c.hear_all.new.fleet c.hear_all.new.journal) g.T.Station.tells
    (IsAtRest routes papers c.args.journal.now c.args.fleet.now old) (IsAtRest routes papers c.loop-left.journal c.loop-left.fleet mid) c.loop-left.invariant.rests old mid new c.args.settings.now.input_limit c.loop-left.left c.in-Ok.count (g.S.Source.last c.read.new.self) c.loop-left.kept c.hear_all.new.kept (g.S.Source.left c.read.new.self) chunk _ h
    (λ told. chunk_taken _ _ _ c.read.new.room behind c.in-Ok.count (c.in-Ok.ensures.bytes told) c.in-Ok.ensures.bound)
    (chunk_length c.read.new.room behind c.in-Ok.count c.in-Ok.ensures.bound)
    (omega (arith, c.in-Ok.ensures.bound, c.read.auto.room, length-take c.min-size.result c.loop-left.room, c.min-size.ensures))
    fault (c.in_err-hear_all-in-Ok.ensures.heard (unfinished h.taken) (unfinished_is h.taken) h.kept_is) c.in-Ok.ensures.last (omega (arith, c.in-Ok.ensures.bound, c.read.auto.room, length-take c.min-size.result c.loop-left.room, c.min-size.ensures)) in
    rw (p.1 ∙ ap Err p.2) ends

pub returns-clause-served : goal.returns-clause-served
returns-clause-served g c =
    limit_reached _ c.args.settings.now.input_limit c.loop-left.left (g.S.Source.last c.end_at_limit.new.source) c.loop-left.kept (g.S.Source.left c.end_at_limit.new.source) _ c.loop-left.invariant.served c.end_at_limit.result
    (omega (arith, c.loop-left-test.false)) c.end_at_limit.ensures.ok (λ is. (c.end_at_limit.ensures.read is).0) c.end_at_limit.ensures.limit c.end_at_limit.ensures.alone c.end_at_limit.ensures.no_other

pub loop-left-init : goal.loop-left-init
loop-left-init g c =
    let clock : Clock = g.T.Station.clock c.args.station.now in
    let papers = papers_in c.args.papers.now in
    let settings = c.args.settings.now in
    record {
      served = nothing_served (course_on c.args.plan.now papers settings c.args.fleet.now c.args.journal.now c.args.fleet.now c.args.journal.now g.T.Station.tells clock clock) c.args.settings.now.input_limit c.new-kept.result _ refl
          (resting c.args.plan.now papers settings c.args.fleet.now c.args.journal.now g.T.Station.tells clock []) refl c.new-kept.ensures refl;
      rules = c.requires.state;
      room = c.requires.room;
      stands = c.requires.stands;
      rests = λ told rest. rest;
      source_counted = counted_self _;
      station_counted = counted_self _;
    }
