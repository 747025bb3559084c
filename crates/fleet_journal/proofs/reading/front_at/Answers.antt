use Rattle.std.proofs.Common.{subst}
use Rattle.station_api.specs.Scene.{Scene, side_of}
use Rattle.station_api.specs.Disk.{Reads}
use Rattle.fleet_journal.proofs.Pieces.{room, front_is}
use Rattle.fleet_journal.proofs.reading.front_at.Goals as goal

pub returns-clause-front : goal.returns-clause-front
returns-clause-front g c told =
    front_is _ c.read.new.room _ c.in_ok-read.field-0 _ _
    (subst (λ (s : Scene). Reads (side_of c.args.side s) c.args.place c.in_ok-read.field-0 room c.read.new.room) (c.length.ensures.quiet told).seen (c.in_ok-read.ensures.bytes told))
    c.read.auto.room c.front_of.ensures (c.in_ok-end.ensures.length told)
