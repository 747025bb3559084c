use Rattle.std.proofs.Common.{arith}
use Rattle.edge_groups.proofs.Rows.{cursor_next}
use Rattle.edge_groups.proofs.packing.all_beyond.Goals as goal

pub loop-q-preserved : goal.loop-q-preserved
loop-q-preserved c = λ there. cursor_next c.args.graph.now c.robots-plan.ensures.plan c.loop-q.cursor c.find.new.self 0 262144 c.loop-q.q c.rank_at-rank.result there (c.loop-q.invariant (omega (arith, there))) c.rank_at-rank.ensures.rank c.find.ensures.raise c.find.ensures.lead c.find.ensures.behind
