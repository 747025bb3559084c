use Rattle.fleet_gen.proofs.Generated.{its_roads}
use Rattle.fleet_gen.proofs.laws.drawn_roads_are_roads.Goals as goal

pub returns : goal.returns
returns c = its_roads
