use Rattle.cert_tree.proofs.Branches.{spent_within_groups}
use Rattle.cert_check.proofs.laws.spent_trees_are_small.Goals as goal

pub returns : goal.returns
returns c = spent_within_groups
