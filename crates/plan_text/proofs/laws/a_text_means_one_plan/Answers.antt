use Rattle.plan_text.proofs.Outcomes.{means_one}
use Rattle.plan_text.proofs.laws.a_text_means_one_plan.Goals as goal

pub returns : goal.returns
returns c = means_one
