use Rattle.std.proofs.Common.{inl, inr, refl, map}
use Rattle.std.specs.Prelude.{string_bytes}
use Rattle.fleet_cli.specs.Papers.{bytes_of, files_of, failed_at}
use Rattle.fleet_cli.specs.Ends.{Call}
use Rattle.fleet_cli.proofs.Exclusion.{say_ends, ends_smooth, routes_are}
use Rattle.fleet_cli.proofs.Made.{made_sent}
use Rattle.fleet_cli.specs.Runs.{HasFailed}
use Rattle.fleet_serve.specs.Told.{told}
use Rattle.fleet_serve.specs.Spans.{span}
use Rattle.fleet_cli.proofs.top.fleet_main.Goals as goal

pub returns-in-Ok-Say-clause-ends : goal.returns-in-Ok-Say-clause-ends
returns-in-Ok-Say-clause-ends g c =
    let call : Call = record {
      words = map (λ w. string_bytes w) c.args.words.now;
      files = files_of g.H.Shelf.tells (g.H.Shelf.file c.args.shelf.now);
      shelf_failed = failed_at g.H.Shelf.tells (g.H.Shelf.asked c.task_of.new.shelf) (HasFailed (g.H.Shelf.counts c.args.shelf.now) (g.H.Shelf.counts c.task_of.new.shelf));
      talk = record {
        input = told g.S.Source.tells (g.S.Source.left c.args.source.now) (g.S.Source.left c.args.source.now);
        last_read = g.S.Source.last c.args.source.now;
        source_failed = HasFailed (g.S.Source.counts c.args.source.now) (g.S.Source.counts c.args.source.now);
        station = span g.T.Station.tells (g.T.Station.clock c.args.station.now) (g.T.Station.clock c.say.new.station);
        station_failed = HasFailed (g.T.Station.counts c.args.station.now) (g.T.Station.counts c.say.new.station);
      };
    } in
    let task = rw c.in-Ok-Say.field-0-is at c.in-Ok-Say.ensures.task in
    inl (record { takes = λ told. refl; stay = c.say.ensures.sides; ends = say_ends call c.in-Ok-Say.reply.status c.say.result c.in-Ok-Say.reply.text c.as_slice.result.now task c.as_slice.ensures c.say.ensures.ends })

pub returns-in-Ok-Say-clause-complete : goal.returns-in-Ok-Say-clause-complete
returns-in-Ok-Say-clause-complete g c command papers routes tells asked may fine taken sent =
    let call : Call = record {
      words = map (λ w. string_bytes w) c.args.words.now;
      files = files_of g.H.Shelf.tells (g.H.Shelf.file c.args.shelf.now);
      shelf_failed = failed_at g.H.Shelf.tells (g.H.Shelf.asked c.task_of.new.shelf) (HasFailed (g.H.Shelf.counts c.args.shelf.now) (g.H.Shelf.counts c.task_of.new.shelf));
      talk = record {
        input = told g.S.Source.tells (g.S.Source.left c.args.source.now) (g.S.Source.left c.args.source.now);
        last_read = g.S.Source.last c.args.source.now;
        source_failed = HasFailed (g.S.Source.counts c.args.source.now) (g.S.Source.counts c.args.source.now);
        station = span g.T.Station.tells (g.T.Station.clock c.args.station.now) (g.T.Station.clock c.say.new.station);
        station_failed = HasFailed (g.T.Station.counts c.args.station.now) (g.T.Station.counts c.say.new.station);
      };
    } in
    ends_smooth call command papers routes c.say.result tells asked may (λ name f. fine f.0) taken sent (returns-in-Ok-Say-clause-ends g c)

pub returns-in-Ok-Say-clause-made : goal.returns-in-Ok-Say-clause-made
returns-in-Ok-Say-clause-made g c text tells made fine sent =
    let call : Call = record {
      words = map (λ w. string_bytes w) c.args.words.now;
      files = files_of g.H.Shelf.tells (g.H.Shelf.file c.args.shelf.now);
      shelf_failed = failed_at g.H.Shelf.tells (g.H.Shelf.asked c.task_of.new.shelf) (HasFailed (g.H.Shelf.counts c.args.shelf.now) (g.H.Shelf.counts c.task_of.new.shelf));
      talk = record {
        input = told g.S.Source.tells (g.S.Source.left c.args.source.now) (g.S.Source.left c.args.source.now);
        last_read = g.S.Source.last c.args.source.now;
        source_failed = HasFailed (g.S.Source.counts c.args.source.now) (g.S.Source.counts c.args.source.now);
        station = span g.T.Station.tells (g.T.Station.clock c.args.station.now) (g.T.Station.clock c.say.new.station);
        station_failed = HasFailed (g.T.Station.counts c.args.station.now) (g.T.Station.counts c.say.new.station);
      };
    } in
    made_sent call text c.say.result tells made (λ name f. fine f.0) sent (returns-in-Ok-Say-clause-ends g c)

pub run-requires-clause-sound : goal.run-requires-clause-sound
run-requires-clause-sound g c =
    let task = rw c.in-Ok-Serve.field-0-is at c.in-Ok-Serve.ensures.task in
    routes_are _ task.2.0.map_name task.2.0.plan_name _ _ task.2.0.sound

pub returns-in-Ok-Serve-clause-ends : goal.returns-in-Ok-Serve-clause-ends
returns-in-Ok-Serve-clause-ends g c =
    let task = rw c.in-Ok-Serve.field-0-is at c.in-Ok-Serve.ensures.task in
    inr (record {
      command = task.0;
      journal = c.in-Ok-Serve.journal.now;
      budget = c.in-Ok-Serve.budget;
      quiet = c.in-Ok-Serve.quiet;
      runs = task.1;
      papers = bytes_of c.in-Ok-Serve.papers;
      routes = c.in-Ok-Serve.papers.plan;
      asked = task.2.0;
      ends = c.run.ensures.ends;
    })

pub returns-in-Ok-Serve-clause-complete : goal.returns-in-Ok-Serve-clause-complete
returns-in-Ok-Serve-clause-complete g c command papers routes tells asked may fine taken sent =
    let call : Call = record {
      words = map (λ w. string_bytes w) c.args.words.now;
      files = files_of g.H.Shelf.tells (g.H.Shelf.file c.args.shelf.now);
      shelf_failed = failed_at g.H.Shelf.tells (g.H.Shelf.asked c.task_of.new.shelf) (HasFailed (g.H.Shelf.counts c.args.shelf.now) (g.H.Shelf.counts c.task_of.new.shelf));
      talk = record {
        input = told g.S.Source.tells (g.S.Source.left c.args.source.now) (g.S.Source.left c.run.new.source);
        last_read = g.S.Source.last c.run.new.source;
        source_failed = HasFailed (g.S.Source.counts c.args.source.now) (g.S.Source.counts c.run.new.source);
        station = span g.T.Station.tells (g.T.Station.clock c.args.station.now) (g.T.Station.clock c.run.new.station);
        station_failed = HasFailed (g.T.Station.counts c.args.station.now) (g.T.Station.counts c.run.new.station);
      };
    } in
    ends_smooth call command papers routes c.run.result tells asked may (λ name f. fine f.0) taken sent (returns-in-Ok-Serve-clause-ends g c)

pub returns-in-Ok-Serve-clause-made : goal.returns-in-Ok-Serve-clause-made
returns-in-Ok-Serve-clause-made g c text tells made fine sent =
    let call : Call = record {
      words = map (λ w. string_bytes w) c.args.words.now;
      files = files_of g.H.Shelf.tells (g.H.Shelf.file c.args.shelf.now);
      shelf_failed = failed_at g.H.Shelf.tells (g.H.Shelf.asked c.task_of.new.shelf) (HasFailed (g.H.Shelf.counts c.args.shelf.now) (g.H.Shelf.counts c.task_of.new.shelf));
      talk = record {
        input = told g.S.Source.tells (g.S.Source.left c.args.source.now) (g.S.Source.left c.run.new.source);
        last_read = g.S.Source.last c.run.new.source;
        source_failed = HasFailed (g.S.Source.counts c.args.source.now) (g.S.Source.counts c.run.new.source);
        station = span g.T.Station.tells (g.T.Station.clock c.args.station.now) (g.T.Station.clock c.run.new.station);
        station_failed = HasFailed (g.T.Station.counts c.args.station.now) (g.T.Station.counts c.run.new.station);
      };
    } in
    made_sent call text c.run.result tells made (λ name f. fine f.0) sent (returns-in-Ok-Serve-clause-ends g c)
