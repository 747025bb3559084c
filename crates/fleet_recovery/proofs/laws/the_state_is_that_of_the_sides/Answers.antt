use Rattle.fleet_recovery.proofs.Following.{looked_stands}
use Rattle.fleet_recovery.proofs.laws.the_state_is_that_of_the_sides.Goals as goal

pub returns : goal.returns
returns c = looked_stands
