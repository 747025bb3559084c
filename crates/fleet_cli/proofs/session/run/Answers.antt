use Rattle.std.proofs.Common.{Err, refl, ap, ◌∙◌, append-nil}
use Rattle.fleet_recovery.proofs.Sending.{rest_stands, rests_sending}
use Rattle.fleet_recovery.proofs.Passing.{counted_on}
use Rattle.fleet_serve.proofs.Moments.{rose_later}
use Rattle.fleet_cli.specs.Papers.{bytes_of}
use Rattle.fleet_cli.specs.Runs.{run_settings, HasFailed}
use Rattle.fleet_cli.proofs.Running.{opening_ends, greeting_breaks, greeting_starves, done_ends, breaks_ends, starves_ends, unread_ends, limit_ends}
use Rattle.fleet_cli.proofs.RunSessions.{read_is_other, limit_is_other}
use Rattle.fleet_serve.specs.Told.{told}
use Rattle.fleet_serve.specs.Spans.{span}
use Rattle.fleet_cli.proofs.session.run.Goals as goal

pub returns-in-Err-clause-ends : goal.returns-in-Err-clause-ends
returns-in-Err-clause-ends g c = opening_ends c.args.papers.now.plan (bytes_of c.args.papers.now) (run_settings c.args.budget c.args.quiet) (record {
  input = told g.S.Source.tells (g.S.Source.left c.args.source.now) (g.S.Source.left c.args.source.now);
  last_read = g.S.Source.last c.args.source.now;
  source_failed = HasFailed (g.S.Source.counts c.args.source.now) (g.S.Source.counts c.args.source.now);
  station = span g.T.Station.tells (g.T.Station.clock c.args.station.now) (g.T.Station.clock c.open.new.station);
  station_failed = HasFailed (g.T.Station.counts c.args.station.now) (g.T.Station.counts c.open.new.station);
}) c.in-Err.status (λ told. refl) c.in-Err.ensures.refused

pub returns-in-Err-Station-clause-ends : goal.returns-in-Err-Station-clause-ends
returns-in-Err-Station-clause-ends g c =
    greeting_breaks c.args.papers.now.plan c.requires.sound (bytes_of c.args.papers.now) (run_settings c.args.budget c.args.quiet) c.in-Ok.opened.fleet c.in-Ok.opened.fleet c.in-Ok.opened.journal c.in-Ok.opened.journal g.T.Station.tells (g.T.Station.clock c.args.station.now) (g.T.Station.clock c.open.new.station) (g.T.Station.clock c.greet.new.station) (g.T.Station.clock c.greet.new.station) c.in-Ok.ensures.rules c.in-Ok.ensures.restores c.in-Ok.ensures.opening c.in-Ok.ensures.unsent c.in-Ok.ensures.rests c.greet.ensures.sides (told g.S.Source.tells (g.S.Source.left c.args.source.now) (g.S.Source.left c.args.source.now)) (g.S.Source.last c.args.source.now) (HasFailed (g.S.Source.counts c.args.source.now) (g.S.Source.counts c.args.source.now)) (HasFailed (g.T.Station.counts c.args.station.now) (g.T.Station.counts c.greet.new.station)) (λ told. refl)
    (rose_later _ _ _ c.open.ensures.counted.later (c.in-Err-Station.ensures.cause (ap Err c.in-Err-Station.field-0-is)).rose)
    (rw c.in-Err-Station.field-0-is at c.in-Err-Station.ensures.said)

pub returns-in-Err-Memory-clause-ends : goal.returns-in-Err-Memory-clause-ends
returns-in-Err-Memory-clause-ends g c =
    greeting_starves c.args.papers.now.plan c.requires.sound (bytes_of c.args.papers.now) (run_settings c.args.budget c.args.quiet) c.in-Ok.opened.fleet c.in-Ok.opened.fleet c.in-Ok.opened.journal c.in-Ok.opened.journal g.T.Station.tells (g.T.Station.clock c.args.station.now) (g.T.Station.clock c.open.new.station) (g.T.Station.clock c.greet.new.station) (g.T.Station.clock c.greet.new.station) c.in-Ok.ensures.rules c.in-Ok.ensures.restores c.in-Ok.ensures.opening c.in-Ok.ensures.unsent c.in-Ok.ensures.rests c.greet.ensures.sides (told g.S.Source.tells (g.S.Source.left c.args.source.now) (g.S.Source.left c.args.source.now)) (g.S.Source.last c.args.source.now) (HasFailed (g.S.Source.counts c.args.source.now) (g.S.Source.counts c.args.source.now)) (HasFailed (g.T.Station.counts c.args.station.now) (g.T.Station.counts c.greet.new.station)) (λ told. refl)
    (λ told. (rw c.in-Err-Memory.field-0-is at c.in-Err-Memory.ensures.said) told ∙ append-nil _)

pub serve-requires-clause-stands : goal.serve-requires-clause-stands
serve-requires-clause-stands g c told =
    rw (c.deref.ensures.value, c.deref-2.ensures.value) (rest_stands c.args.papers.now.plan (bytes_of c.args.papers.now) c.in-Ok.opened.journal c.in-Ok.opened.fleet (g.T.Station.clock c.greet.new.station) (rests_sending c.args.papers.now.plan (bytes_of c.args.papers.now) c.in-Ok.opened.journal c.in-Ok.opened.fleet (g.T.Station.clock c.open.new.station) (g.T.Station.clock c.greet.new.station) (c.greet.ensures.sides told) (c.in-Ok.ensures.rests told)))

pub returns-in-Ok-serve-clause-ends : goal.returns-in-Ok-serve-clause-ends
returns-in-Ok-serve-clause-ends g c =
    done_ends c.args.papers.now.plan c.requires.sound (bytes_of c.args.papers.now) (run_settings c.args.budget c.args.quiet) c.in-Ok.opened.fleet c.serve.new.fleet c.in-Ok.opened.journal c.serve.new.journal g.T.Station.tells (g.T.Station.clock c.args.station.now) (g.T.Station.clock c.open.new.station) (g.T.Station.clock c.greet.new.station) (g.T.Station.clock c.serve.new.station) c.in-Ok.ensures.rules c.in-Ok.ensures.restores c.in-Ok.ensures.opening c.in-Ok.ensures.unsent c.in-Ok.ensures.rests c.greet.ensures.sides (told g.S.Source.tells (g.S.Source.left c.args.source.now) (g.S.Source.left c.serve.new.source)) (g.S.Source.last c.serve.new.source) (HasFailed (g.S.Source.counts c.args.source.now) (g.S.Source.counts c.serve.new.source)) (HasFailed (g.T.Station.counts c.args.station.now) (g.T.Station.counts c.serve.new.station)) (λ told. c.in-Ok-greet.ensures.said told) (rw (c.deref.ensures.value, c.deref-2.ensures.value) at c.in-Ok-serve.ensures.served)

pub returns-in-Err-Station-serve-clause-ends : goal.returns-in-Err-Station-serve-clause-ends
returns-in-Err-Station-serve-clause-ends g c =
    breaks_ends c.args.papers.now.plan c.requires.sound (bytes_of c.args.papers.now) (run_settings c.args.budget c.args.quiet) c.in-Ok.opened.fleet c.serve.new.fleet c.in-Ok.opened.journal c.serve.new.journal g.T.Station.tells (g.T.Station.clock c.args.station.now) (g.T.Station.clock c.open.new.station) (g.T.Station.clock c.greet.new.station) (g.T.Station.clock c.serve.new.station) c.in-Ok.ensures.rules c.in-Ok.ensures.restores c.in-Ok.ensures.opening c.in-Ok.ensures.unsent c.in-Ok.ensures.rests c.greet.ensures.sides (told g.S.Source.tells (g.S.Source.left c.args.source.now) (g.S.Source.left c.serve.new.source)) (g.S.Source.last c.serve.new.source) (HasFailed (g.S.Source.counts c.args.source.now) (g.S.Source.counts c.serve.new.source)) (HasFailed (g.T.Station.counts c.args.station.now) (g.T.Station.counts c.serve.new.station)) (λ told. c.in-Ok-greet.ensures.said told)
    (rose_later _ _ _ (counted_on _ _ _ c.open.ensures.counted c.greet.ensures.counted).later (c.in-Err-Station-serve.ensures.station_cause (ap Err c.in-Err-Station-serve.field-0-is)).rose) (rw (c.deref.ensures.value, c.deref-2.ensures.value) at (rw c.in-Err-Station-serve.field-0-is at c.in-Err-Station-serve.ensures.served))

pub returns-clause-ends : goal.returns-clause-ends
returns-clause-ends g c =
    starves_ends c.args.papers.now.plan c.requires.sound (bytes_of c.args.papers.now) (run_settings c.args.budget c.args.quiet) c.in-Ok.opened.fleet c.serve.new.fleet c.in-Ok.opened.journal c.serve.new.journal g.T.Station.tells (g.T.Station.clock c.args.station.now) (g.T.Station.clock c.open.new.station) (g.T.Station.clock c.greet.new.station) (g.T.Station.clock c.serve.new.station) c.in-Ok.ensures.rules c.in-Ok.ensures.restores c.in-Ok.ensures.opening c.in-Ok.ensures.unsent c.in-Ok.ensures.rests c.greet.ensures.sides (told g.S.Source.tells (g.S.Source.left c.args.source.now) (g.S.Source.left c.serve.new.source)) (g.S.Source.last c.serve.new.source) (HasFailed (g.S.Source.counts c.args.source.now) (g.S.Source.counts c.serve.new.source)) (HasFailed (g.T.Station.counts c.args.station.now) (g.T.Station.counts c.serve.new.station)) (λ told. c.in-Ok-greet.ensures.said told) (rw (c.deref.ensures.value, c.deref-2.ensures.value) at (rw c.in-Err-Memory-serve.field-0-is at c.in-Err-Memory-serve.ensures.served))

pub returns-in-Err-Read-clause-ends : goal.returns-in-Err-Read-clause-ends
returns-in-Err-Read-clause-ends g c =
    unread_ends c.args.papers.now.plan c.requires.sound (bytes_of c.args.papers.now) (run_settings c.args.budget c.args.quiet) c.in-Ok.opened.fleet c.serve.new.fleet c.in-Ok.opened.journal c.serve.new.journal g.T.Station.tells (g.T.Station.clock c.args.station.now) (g.T.Station.clock c.open.new.station) (g.T.Station.clock c.greet.new.station) (g.T.Station.clock c.serve.new.station) c.in-Ok.ensures.rules c.in-Ok.ensures.restores c.in-Ok.ensures.opening c.in-Ok.ensures.unsent c.in-Ok.ensures.rests c.greet.ensures.sides (told g.S.Source.tells (g.S.Source.left c.args.source.now) (g.S.Source.left c.serve.new.source)) (g.S.Source.last c.serve.new.source) (HasFailed (g.S.Source.counts c.args.source.now) (g.S.Source.counts c.serve.new.source)) (HasFailed (g.T.Station.counts c.args.station.now) (g.T.Station.counts c.say.new.station)) (λ told. c.in-Ok-greet.ensures.said told) (λ told. (rw (c.deref.ensures.value, c.deref-2.ensures.value) at (c.serve.ensures.rests told (read_is_other _ (c.in-Err-Read.is ∙ ap Err c.in-Err-Read.field-0-is))))) (g.T.Station.clock c.say.new.station) c.say.ensures.sides (HasFailed (g.T.Station.counts c.serve.new.station) (g.T.Station.counts c.say.new.station)) c.say.result
    (λ late. rose_later _ _ _ (counted_on _ _ _ c.open.ensures.counted (counted_on _ _ _ c.greet.ensures.counted c.serve.ensures.station_counted)).later late)
    (c.in-Err-Read.ensures.source_cause (ap Err c.in-Err-Read.field-0-is)).rose (rw (c.deref.ensures.value, c.deref-2.ensures.value) at (rw c.in-Err-Read.field-0-is at c.in-Err-Read.ensures.served)) c.say.ensures.ends

pub returns-in-Err-Limit-clause-ends : goal.returns-in-Err-Limit-clause-ends
returns-in-Err-Limit-clause-ends g c =
    limit_ends c.args.papers.now.plan c.requires.sound (bytes_of c.args.papers.now) (run_settings c.args.budget c.args.quiet) c.in-Ok.opened.fleet c.serve.new.fleet c.in-Ok.opened.journal c.serve.new.journal g.T.Station.tells (g.T.Station.clock c.args.station.now) (g.T.Station.clock c.open.new.station) (g.T.Station.clock c.greet.new.station) (g.T.Station.clock c.serve.new.station) c.in-Ok.ensures.rules c.in-Ok.ensures.restores c.in-Ok.ensures.opening c.in-Ok.ensures.unsent c.in-Ok.ensures.rests c.greet.ensures.sides (told g.S.Source.tells (g.S.Source.left c.args.source.now) (g.S.Source.left c.serve.new.source)) (g.S.Source.last c.serve.new.source) (HasFailed (g.S.Source.counts c.args.source.now) (g.S.Source.counts c.serve.new.source)) (HasFailed (g.T.Station.counts c.args.station.now) (g.T.Station.counts c.say-in-Err-Limit.new.station)) (λ told. c.in-Ok-greet.ensures.said told) (λ told. (rw (c.deref.ensures.value, c.deref-2.ensures.value) at (c.serve.ensures.rests told (limit_is_other _ (c.in-Err-Limit.is ∙ ap Err c.in-Err-Limit.field-0-is))))) (g.T.Station.clock c.say-in-Err-Limit.new.station) c.say-in-Err-Limit.ensures.sides (HasFailed (g.T.Station.counts c.serve.new.station) (g.T.Station.counts c.say-in-Err-Limit.new.station)) c.say-in-Err-Limit.result
    (λ late. rose_later _ _ _ (counted_on _ _ _ c.open.ensures.counted (counted_on _ _ _ c.greet.ensures.counted c.serve.ensures.station_counted)).later late) (rw (c.deref.ensures.value, c.deref-2.ensures.value) at (rw c.in-Err-Limit.field-0-is at c.in-Err-Limit.ensures.served)) c.say-in-Err-Limit.ensures.ends

pub returns-in-Err-Limit-clause-station : goal.returns-in-Err-Limit-clause-station
returns-in-Err-Limit-clause-station g c = counted_on _ _ _ c.open.ensures.counted (counted_on _ _ _ c.greet.ensures.counted (counted_on _ _ _ c.serve.ensures.station_counted c.say-in-Err-Limit.ensures.counted))

pub returns-clause-station : goal.returns-clause-station
returns-clause-station g c = counted_on _ _ _ c.open.ensures.counted (counted_on _ _ _ c.greet.ensures.counted c.serve.ensures.station_counted)
