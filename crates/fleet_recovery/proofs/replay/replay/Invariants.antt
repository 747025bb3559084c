use Rattle.std.proofs.Common.{◌≡◌, ◌+◌, ◌-◌, ◌^◌, [], cond}
use Rattle.fleet_base.specs.Rules.{IsFleetState}
use Rattle.release_rule.specs.Releasing.{IsOutFor}
use Rattle.station_api.specs.Disk.{IsQuiet}
use Rattle.station_api.specs.Causes.{Counted}
use Rattle.journal_frame.specs.declared.header.HeaderParts.{HeaderParts}
use Rattle.fleet_journal.specs.Journal.{HasRead}
use Rattle.fleet_recovery.specs.Replaying.{HasLedUntil}
use Rattle.fleet_recovery.proofs.replay.replay.Given as goal

abbrev pub invariant-loop-more : goal.invariant-loop-more
invariant-loop-more g l = record {
  rules : IsFleetState l.graph l.fleet;
  room : IsOutFor l.graph l.out;
  side : l.journal.side ≡ l.fn.journal.side;
  quiet : g.T.Station.tells → IsQuiet (g.T.Station.clock l.fn.station) (g.T.Station.clock l.station);
  counted : Counted (g.T.Station.counts l.fn.station) (g.T.Station.counts l.station);
  leads : g.T.Station.tells → (header : HeaderParts) → HasRead l.fn.journal header [] (g.T.Station.clock l.fn.station).seen → HasLedUntil l.graph l.fn.fleet l.fleet l.journal header (g.T.Station.clock l.fn.station).seen l.more;
}

abbrev pub decreases-loop-more : goal.decreases-loop-more
decreases-loop-more g l = (2 ^ 62 - l.fleet.count) + cond l.more 1 0
