use Rattle.fleet_base.proofs.Crossing.{crossing_is_sound, the_visits, is_the_graph}
use Rattle.fleet_base.proofs.examples.the_crossing_is_sound.Goals as goal

pub returns-clause-sound : goal.returns-clause-sound
returns-clause-sound c = crossing_is_sound

pub returns-clause-visits : goal.returns-clause-visits
returns-clause-visits c = the_visits

pub returns-clause-pairs : goal.returns-clause-pairs
returns-clause-pairs c = is_the_graph
