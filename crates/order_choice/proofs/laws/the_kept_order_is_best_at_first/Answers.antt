use Rattle.order_choice.proofs.Best.{kept_is_best}
use Rattle.order_choice.proofs.laws.the_kept_order_is_best_at_first.Goals as goal

pub returns : goal.returns
returns c = kept_is_best
