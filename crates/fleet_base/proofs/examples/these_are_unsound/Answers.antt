use Rattle.fleet_base.proofs.Crossing.{a_swap, a_rotation, a_goal}
use Rattle.fleet_base.proofs.examples.these_are_unsound.Goals as goal

pub returns-clause-swap : goal.returns-clause-swap
returns-clause-swap c = a_swap

pub returns-clause-rotation : goal.returns-clause-rotation
returns-clause-rotation c = a_rotation

pub returns-clause-last_cell : goal.returns-clause-last_cell
returns-clause-last_cell c = a_goal
