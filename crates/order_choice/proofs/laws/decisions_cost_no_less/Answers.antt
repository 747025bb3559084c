use Rattle.order_choice.proofs.Candidates.{costs_no_less}
use Rattle.order_choice.proofs.laws.decisions_cost_no_less.Goals as goal

pub returns : goal.returns
returns c = costs_no_less
