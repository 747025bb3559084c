use Rattle.plan_graph.proofs.Deciding.{cyclic_where_a_cycle}
use Rattle.plan_graph.proofs.laws.cyclic_exactly_where_a_cycle_is.Goals as goal

pub returns : goal.returns
returns c = cyclic_where_a_cycle
