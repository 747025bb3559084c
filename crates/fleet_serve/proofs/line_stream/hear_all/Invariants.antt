use Rattle.std.proofs.Common.{◌≡◌, ◌++◌, ◌≤◌, ℕ, List, length, take}
use Rattle.fleet_base.specs.Rules.{IsFleetState}
use Rattle.station_api.specs.Causes.{Counted}
use Rattle.fleet_recovery.specs.Opening.{StandsWith, IsAtRest}
use Rattle.fleet_recovery.specs.Papers.{papers_in}
use Rattle.search_nodes.specs.Rooms.{IsRoomFor}
use Rattle.fleet_serve.specs.Serving.{Serves}
use Rattle.fleet_serve.proofs.Courses.{course_on}
use Rattle.fleet_serve.specs.Reading.{IsUnfinished, kept_of, unfinished}
use Rattle.fleet_serve.proofs.line_stream.hear_all.Given as goal

abbrev pub invariant-loop-byte : goal.invariant-loop-byte
invariant-loop-byte g l = record {
  heard : (line : List ℕ) → IsUnfinished line → l.initial.kept ≡ kept_of line
      → Serves (course_on l.session.plan.now (papers_in l.session.papers.now) l.session.settings.now l.initial.fleet l.initial.journal l.fleet l.journal g.T.Station.tells (g.T.Station.clock l.initial.station) (g.T.Station.clock l.station)) (line ++ take l.byte-index l.bytes)
      × (l.kept ≡ kept_of (unfinished (line ++ take l.byte-index l.bytes)));
  short : length l.kept ≤ 258;
  rules : IsFleetState l.session.graph.now l.fleet;
  room : IsRoomFor l.session.graph.now l.kit.room;
  stands : g.T.Station.tells → StandsWith l.session.plan.now (papers_in l.session.papers.now) l.journal l.fleet (g.T.Station.clock l.station).seen;
  rests : g.T.Station.tells → IsAtRest l.session.plan.now (papers_in l.session.papers.now) l.initial.journal l.initial.fleet (g.T.Station.clock l.initial.station) → IsAtRest l.session.plan.now (papers_in l.session.papers.now) l.journal l.fleet (g.T.Station.clock l.station);
  counted : Counted (g.T.Station.counts l.initial.station) (g.T.Station.counts l.station);
}
