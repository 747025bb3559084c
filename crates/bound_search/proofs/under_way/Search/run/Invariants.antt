use Rattle.std.proofs.Common.{◌-◌, ◌≤◌}
use Rattle.search_nodes.specs.Rooms.{IsRoomFor}
use Rattle.bound_search.specs.UnderWay.{IsUnderWay, OfSameState}
use Rattle.bound_search.proofs.under_way.Search.run.Given as goal

abbrev pub invariant-loop-next : goal.invariant-loop-next
invariant-loop-next l = record {
  under_way : IsUnderWay l.self.maker l.self.line l.self.place l.self.expanded;
  within : l.self.expanded ≤ l.budget;
  same : OfSameState l.initial.self.maker l.self.maker;
  room : IsRoomFor l.initial.self.maker.graph l.room;
}

abbrev pub decreases-loop-next : goal.decreases-loop-next
decreases-loop-next l = l.budget - l.self.expanded
