-- Room for the checkers.
use Rattle.std.specs.Prelude.{ℕ, ◌≡◌, ◌+◌, List, map, length}
use Rattle.fleet_base.specs.declared.order.PairId.{PairId}
use Rattle.fleet_base.specs.Order.{Graph}
use Rattle.edge_groups.specs.Mates.{AreAllMates}

-- what a room is for: how many visits each robot has, how many pairs there are, and the mates of each pair
pub record Room : Type 0 where
  pub visits : List ℕ
  pub pairs : ℕ
  pub mates : List (List PairId)

-- it was made for the graph
pub record IsRoomFor (g : Graph) (room : Room) : Type 0 where
  pub visits : room.visits ≡ map (λ last. last + 1) g.lasts
  pub pairs : room.pairs ≡ length g.pairs
  pub mates : AreAllMates g room.mates
