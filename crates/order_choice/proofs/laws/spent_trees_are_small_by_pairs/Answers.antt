use Rattle.order_choice.proofs.Branches.{spent_within_pairs}
use Rattle.order_choice.proofs.laws.spent_trees_are_small_by_pairs.Goals as goal

pub returns : goal.returns
returns c = spent_within_pairs
