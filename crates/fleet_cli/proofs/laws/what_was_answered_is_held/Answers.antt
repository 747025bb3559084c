use Rattle.fleet_cli.proofs.LivesHeld.{begins_with_all}
use Rattle.fleet_cli.proofs.laws.what_was_answered_is_held.Goals as goal

pub returns : goal.returns
returns c = λ routes r life is x held begins. (begins_with_all routes r life is x held begins).answered
