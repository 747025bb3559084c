use Rattle.fleet_gen.proofs.Stretches.{no_cell_twice}
use Rattle.fleet_gen.proofs.laws.roads_have_no_cell_twice.Goals as goal

pub returns : goal.returns
returns c = λ road m n lies hm hn e. no_cell_twice road lies m n hm hn e
