use Rattle.fleet_base.proofs.Corridor.{the_corridor, mixed_cycle}
use Rattle.fleet_base.proofs.examples.the_corridor_has_cycles.Goals as goal

pub returns-clause-pairs : goal.returns-clause-pairs
returns-clause-pairs c = the_corridor

pub returns-clause-cycle : goal.returns-clause-cycle
returns-clause-cycle c = mixed_cycle
