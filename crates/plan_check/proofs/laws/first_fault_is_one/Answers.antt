use Rattle.plan_check.proofs.OneFirst.{one_first_fault}
use Rattle.plan_check.proofs.laws.first_fault_is_one.Goals as goal

pub returns : goal.returns
returns c = one_first_fault
