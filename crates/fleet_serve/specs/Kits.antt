-- What a session keeps beside the state.
use Rattle.search_nodes.specs.Rooms.{SearchRoom}

-- the room of its searches
pub record SessionKit : Type 0 where
  pub room : SearchRoom
