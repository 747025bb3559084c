use Rattle.fleet_base.specs.Rules.{IsFleetState}
use Rattle.station_api.specs.Causes.{Counted}
use Rattle.fleet_recovery.specs.Opening.{StandsWith, IsAtRest}
use Rattle.fleet_recovery.specs.Papers.{papers_in}
use Rattle.search_nodes.specs.Rooms.{IsRoomFor}
use Rattle.fleet_serve.proofs.Courses.{course_on}
use Rattle.fleet_serve.proofs.GoingOn.{HasServed}
use Rattle.fleet_serve.proofs.line_stream.serve.Given as goal

abbrev pub invariant-loop-left : goal.invariant-loop-left
invariant-loop-left g l = record {
  served : HasServed (course_on l.plan (papers_in l.fn.papers) l.settings l.initial.fleet l.initial.journal l.fleet l.journal g.T.Station.tells (g.T.Station.clock l.initial.station) (g.T.Station.clock l.station)) l.settings.input_limit l.left l.kept
      (record { tells = g.S.Source.tells; before = g.S.Source.left l.initial.source; now = g.S.Source.left l.source });
  rules : IsFleetState l.graph l.fleet;
  room : IsRoomFor l.graph l.kit.room;
  stands : g.T.Station.tells → StandsWith l.plan (papers_in l.fn.papers) l.journal l.fleet (g.T.Station.clock l.station).seen;
  rests : g.T.Station.tells → IsAtRest l.plan (papers_in l.fn.papers) l.initial.journal l.initial.fleet (g.T.Station.clock l.initial.station) → IsAtRest l.plan (papers_in l.fn.papers) l.journal l.fleet (g.T.Station.clock l.station);
  source_counted : Counted (g.S.Source.counts l.initial.source) (g.S.Source.counts l.source);
  station_counted : Counted (g.T.Station.counts l.initial.station) (g.T.Station.counts l.station);
}

abbrev pub decreases-loop-left : goal.decreases-loop-left
decreases-loop-left g l = l.left
