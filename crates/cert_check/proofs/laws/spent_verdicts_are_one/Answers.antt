use Rattle.cert_check.proofs.OneVerdict.{one_spent_verdict}
use Rattle.cert_check.proofs.laws.spent_verdicts_are_one.Goals as goal

pub returns : goal.returns
returns c = one_spent_verdict
