use Rattle.cert_tree.proofs.TreeBound.{optimal_below}
use Rattle.cert_check.proofs.laws.optimal_trees_bound_schedules.Goals as goal

pub returns : goal.returns
returns c = optimal_below
