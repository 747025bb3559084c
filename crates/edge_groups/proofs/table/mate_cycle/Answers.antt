use Rattle.edge_groups.proofs.Agreeing.{mates_close}
use Rattle.edge_groups.proofs.table.mate_cycle.Goals as goal

pub returns-clause-cycle : goal.returns-clause-cycle
returns-clause-cycle c = λ order side at_a at_b goes_a goes_b. mates_close c.args.graph.now order c.args.a c.args.b side c.requires at_a at_b goes_a goes_b
