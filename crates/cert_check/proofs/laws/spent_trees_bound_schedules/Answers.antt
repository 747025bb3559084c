use Rattle.cert_tree.proofs.TreeBound.{spent_below}
use Rattle.cert_check.proofs.laws.spent_trees_bound_schedules.Goals as goal

pub returns : goal.returns
returns c = spent_below
