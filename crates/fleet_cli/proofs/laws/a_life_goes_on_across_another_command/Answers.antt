use Rattle.fleet_cli.proofs.LivesJoining.{goes_on}
use Rattle.fleet_cli.proofs.laws.a_life_goes_on_across_another_command.Goals as goal

pub returns : goal.returns
returns c s = λ routes papers life keeps before. goes_on routes papers life _ _ keeps before
