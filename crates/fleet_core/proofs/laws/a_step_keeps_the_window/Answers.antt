use Rattle.fleet_core.proofs.Applied.{step_window}
use Rattle.fleet_core.proofs.laws.a_step_keeps_the_window.Goals as goal

pub returns : goal.returns
returns c = step_window
