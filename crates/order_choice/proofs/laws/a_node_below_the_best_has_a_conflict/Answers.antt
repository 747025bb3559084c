use Rattle.order_choice.proofs.Candidates.{below_has_conflict}
use Rattle.order_choice.proofs.laws.a_node_below_the_best_has_a_conflict.Goals as goal

pub returns : goal.returns
returns c = below_has_conflict
