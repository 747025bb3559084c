use Rattle.std.proofs.Common.{arith}
use Rattle.edge_groups.proofs.RankLaws.{small}
use Rattle.edge_groups.proofs.cursor.rank_at.Goals as goal

pub rank-requires : goal.rank-requires
rank-requires c = let s = small c.args.graph.now c.robots-within.ensures.plan c.args.q.0 c.pair.result c.pair.ensures in record { lower = s.lowest; higher = s.robot; early = omega (arith, s.lower); late = omega (arith, s.higher) }
