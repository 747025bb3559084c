use Rattle.fleet_base.specs.Rules.{IsFleetState}
use Rattle.fleet_recovery.specs.Opening.{StandsWith}
use Rattle.fleet_recovery.specs.Papers.{papers_in}
use Rattle.search_nodes.specs.Rooms.{IsRoomFor}
use Rattle.turn_trials.proofs.ahead.answer.Given as goal

abbrev pub invariant-loop-line : goal.invariant-loop-line
invariant-loop-line g l = record {
  rules : IsFleetState l.graph l.fleet;
  room : IsRoomFor l.graph l.kit.room;
  stands : g.T.Station.tells → StandsWith l.plan (papers_in l.papers) l.journal l.fleet (g.T.Station.clock l.station).seen;
}
