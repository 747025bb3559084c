use Rattle.std.proofs.Common.{◌≡◌, length}
use Rattle.fleet_gen.specs.Departures.{AreEarliest}
use Rattle.fleet_gen.proofs.departures.depart_in_turn.Given as goal

abbrev pub invariant-loop-road : goal.invariant-loop-road
invariant-loop-road l = record {
  robots : length l.plan ≡ l.road-index;
  earliest : AreEarliest l.grid l.roads l.plan;
}
