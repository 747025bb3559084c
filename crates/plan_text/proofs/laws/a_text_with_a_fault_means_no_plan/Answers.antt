use Rattle.plan_text.proofs.Outcomes.{faulty}
use Rattle.plan_text.proofs.laws.a_text_with_a_fault_means_no_plan.Goals as goal

pub returns : goal.returns
returns c = faulty
