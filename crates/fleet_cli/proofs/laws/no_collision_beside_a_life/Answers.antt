use Rattle.fleet_cli.proofs.LivesBeside.{lives_are_safe}
use Rattle.fleet_cli.proofs.laws.no_collision_beside_a_life.Goals as goal

pub returns : goal.returns
returns c = lives_are_safe
