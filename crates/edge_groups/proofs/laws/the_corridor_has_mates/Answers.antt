use Rattle.edge_groups.proofs.CorridorMates.{first_mates, second_mates, third_is_none, joined}
use Rattle.edge_groups.proofs.laws.the_corridor_has_mates.Goals as goal

pub returns-clause-first : goal.returns-clause-first
returns-clause-first c = first_mates

pub returns-clause-second : goal.returns-clause-second
returns-clause-second c = second_mates

pub returns-clause-none : goal.returns-clause-none
returns-clause-none c = third_is_none

pub returns-clause-group : goal.returns-clause-group
returns-clause-group c = joined
