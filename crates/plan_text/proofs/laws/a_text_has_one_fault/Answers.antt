use Rattle.plan_text.specs.PlanText.{robot_lines}
use Rattle.plan_text.proofs.OneFault.{one_fault}
use Rattle.plan_text.proofs.laws.a_text_has_one_fault.Goals as goal

pub returns : goal.returns
returns c = λ text. one_fault (robot_lines text)
