use Rattle.fleet_serve.proofs.SessionWorld.{session_worlds_are_safe}
use Rattle.fleet_serve.proofs.laws.no_collision_beside_a_session.Goals as goal

pub returns : goal.returns
returns c = session_worlds_are_safe
