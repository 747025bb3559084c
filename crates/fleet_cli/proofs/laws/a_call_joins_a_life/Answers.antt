use Rattle.fleet_cli.proofs.LivesJoining.{joins}
use Rattle.fleet_cli.proofs.laws.a_call_joins_a_life.Goals as goal

pub returns : goal.returns
returns c s = λ routes r papers settings bytes call told earlier before first events opened seen. joins routes papers settings _ bytes _ _ call told r earlier before first events opened seen
