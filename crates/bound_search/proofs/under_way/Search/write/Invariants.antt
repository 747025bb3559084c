use Rattle.std.proofs.Common.{◌≡◌}
use Rattle.bound_search.specs.UnderWay.{IsUnderWay}
use Rattle.bound_search.specs.Walking.{IsWalked}
use Rattle.search_nodes.specs.Making.{KeepsBest}
use Rattle.bound_search.proofs.under_way.Search.write.Given as goal

abbrev pub invariant-loop-walk : goal.invariant-loop-walk
invariant-loop-walk l = record {
  under_way : IsUnderWay l.self.maker l.self.line l.self.place l.self.expanded;
  walked : IsWalked l.self.maker l.self.line l.walk;
  best : KeepsBest l.initial.self.maker l.self.maker;
  line : l.self.line ≡ l.initial.self.line;
  expanded : l.self.expanded ≡ l.initial.self.expanded;
}

abbrev pub decreases-loop-walk : goal.decreases-loop-walk
decreases-loop-walk l = l.walk.to_come
