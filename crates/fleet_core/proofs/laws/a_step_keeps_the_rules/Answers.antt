use Rattle.fleet_core.proofs.Delaying.{step_keeps_rules}
use Rattle.fleet_core.proofs.laws.a_step_keeps_the_rules.Goals as goal

pub returns : goal.returns
returns c = step_keeps_rules
