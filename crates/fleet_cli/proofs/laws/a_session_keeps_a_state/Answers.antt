use Rattle.fleet_cli.proofs.LivesJoining.{still_stand}
use Rattle.fleet_cli.proofs.laws.a_session_keeps_a_state.Goals as goal

pub returns : goal.returns
returns c s = λ routes papers settings bytes call told before. still_stand routes papers settings _ bytes _ _ call told before
