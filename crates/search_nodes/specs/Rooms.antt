-- Room for searches.
use Rattle.std.specs.Prelude.{List}
use Rattle.fleet_base.specs.declared.order.PairId.{PairId}
use Rattle.fleet_base.specs.Order.{Graph}
use Rattle.edge_groups.specs.Mates.{AreAllMates}
use Rattle.longest_path.specs.Ticks.{KeptSchedule, IsKeptFor}

-- the mates of each pair, and the schedule that was made last
pub record SearchRoom : Type 0 where
  pub mates : List (List PairId)
  pub ticks : KeptSchedule

-- it was made for a graph
pub record IsRoomFor (g : Graph) (room : SearchRoom) : Type 0 where
  pub mates : AreAllMates g room.mates
  pub ticks : IsKeptFor g room.ticks
