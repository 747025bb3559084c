use Rattle.search_nodes.specs.Rooms.{IsRoomFor}
use Rattle.search_bench.proofs.searches.search_often.Given as goal

abbrev pub invariant-loop : goal.invariant-loop
invariant-loop l = IsRoomFor l.graph l.room
