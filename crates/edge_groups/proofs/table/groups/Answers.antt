use Rattle.edge_groups.proofs.Rows.{lists_are_mutual}
use Rattle.edge_groups.proofs.table.groups.Goals as goal

pub name_groups-requires-clause-mutual : goal.name_groups-requires-clause-mutual
name_groups-requires-clause-mutual c = lists_are_mutual c.args.graph.now _ c.in_ok-found.ensures.mates
