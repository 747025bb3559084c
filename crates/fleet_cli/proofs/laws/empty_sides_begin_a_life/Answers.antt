use Rattle.fleet_cli.proofs.LivesJoining.{empty_begins}
use Rattle.fleet_cli.proofs.laws.empty_sides_begin_a_life.Goals as goal

pub returns : goal.returns
returns c = empty_begins
