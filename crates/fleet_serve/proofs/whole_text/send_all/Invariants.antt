use Rattle.std.proofs.Common.{◌≡◌, ◌++◌, ◌-◌, ◌≤◌, take, length}
use Rattle.station_api.specs.Causes.{Counted}
use Rattle.station_api.specs.Disk.{IsSending}
use Rattle.fleet_serve.proofs.whole_text.send_all.Given as goal

abbrev pub invariant-loop-sent : goal.invariant-loop-sent
invariant-loop-sent g l = record {
  within : l.sent ≤ length l.bytes;
  text : g.T.Station.tells → (g.T.Station.clock l.station).seen.sent ≡ (g.T.Station.clock l.initial.station).seen.sent ++ take l.sent l.bytes;
  sides : g.T.Station.tells → IsSending (g.T.Station.clock l.initial.station) (g.T.Station.clock l.station);
  counted : Counted (g.T.Station.counts l.initial.station) (g.T.Station.counts l.station);
}

abbrev pub decreases-loop-sent : goal.decreases-loop-sent
decreases-loop-sent g l = length l.bytes - l.sent
