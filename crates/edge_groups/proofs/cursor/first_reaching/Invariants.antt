use Rattle.std.proofs.Common.{◌-◌}
use Rattle.edge_groups.specs.Ranks.{IsBehind}
use Rattle.edge_groups.proofs.cursor.first_reaching.Given as goal

abbrev pub invariant-loop-at : goal.invariant-loop-at
invariant-loop-at l = IsBehind l.graph l.at l.raise l.wanted

abbrev pub decreases-loop-at : goal.decreases-loop-at
decreases-loop-at l = l.count - l.at
