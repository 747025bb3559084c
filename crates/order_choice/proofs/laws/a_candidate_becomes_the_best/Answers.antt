use Rattle.order_choice.proofs.Best.{candidate_becomes_best}
use Rattle.order_choice.proofs.laws.a_candidate_becomes_the_best.Goals as goal

pub returns : goal.returns
returns c = candidate_becomes_best
