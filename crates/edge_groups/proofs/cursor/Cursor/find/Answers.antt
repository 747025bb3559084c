use Rattle.std.proofs.Common.{ℕ, ◌+◌, ◌∙◌, ap, arith}
use Rattle.edge_groups.proofs.RankLaws.{none_reached}
use Rattle.edge_groups.proofs.cursor.Cursor.find.Goals as goal
use Rattle.edge_groups.proofs.cursor.Cursor.find.Goals.{else-at-pair_count-via-then-at-pair_count+else-rank_at-self, else-at-pair_count-via-else-at-pair_count}

pub returns-else-at-pair_count-clause-found : goal.returns-else-at-pair_count-clause-found
returns-else-at-pair_count-clause-found c =
    none_reached c.args.graph.now c.robots-plan.ensures.plan c.first_reaching-at.result c.args.self.now.raise (c.args.rank + c.args.self.now.lead) c.first_reaching-at.ensures.behind c.first_reaching-at.ensures.reached
    (λ there e. elim c.else-at-pair_count.branch [
      | else-at-pair_count-via-then-at-pair_count+else-rank_at-self w ↦ w.if-rank_at-self.false (ap (λ (n : ℕ). n + c.args.self.now.raise) w.rank_at.ensures.rank ∙ e)
      | else-at-pair_count-via-else-at-pair_count w ↦ omega (arith, there, w.if-at-pair_count.false, c.pair_count.ensures)
    ])
