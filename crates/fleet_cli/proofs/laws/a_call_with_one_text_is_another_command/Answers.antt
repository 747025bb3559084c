use Rattle.fleet_serve.specs.Told.{told}
use Rattle.fleet_serve.specs.Spans.{span}
use Rattle.fleet_cli.specs.Ends.{Call, call}
use Rattle.fleet_cli.specs.Papers.{files_of, failed_at}
use Rattle.fleet_cli.specs.Runs.{HasFailed, talk}
use Rattle.fleet_cli.proofs.Others.{text_is_another}
use Rattle.fleet_cli.proofs.laws.a_call_with_one_text_is_another_command.Goals as goal

pub returns : goal.returns
returns g c words end is tells =
    let made : Call = call words (files_of g.H.Shelf.tells (g.H.Shelf.file c.args.shelf.now)) (failed_at g.H.Shelf.tells (g.H.Shelf.asked c.args.shelf_then.now) (HasFailed (g.H.Shelf.counts c.args.shelf.now) (g.H.Shelf.counts c.args.shelf_then.now))) (talk (told g.S.Source.tells (g.S.Source.left c.args.source.now) (g.S.Source.left c.args.source_then.now)) (g.S.Source.last c.args.source_then.now) (HasFailed (g.S.Source.counts c.args.source.now) (g.S.Source.counts c.args.source_then.now)) (span g.T.Station.tells (g.T.Station.clock c.args.station.now) (g.T.Station.clock c.args.station_then.now)) (HasFailed (g.T.Station.counts c.args.station.now) (g.T.Station.counts c.args.station_then.now))) in
    text_is_another made end tells is
