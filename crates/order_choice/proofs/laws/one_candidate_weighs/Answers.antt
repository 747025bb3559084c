use Rattle.order_choice.proofs.Chosen.{weighs}
use Rattle.order_choice.proofs.laws.one_candidate_weighs.Goals as goal

pub returns : goal.returns
returns c = weighs
