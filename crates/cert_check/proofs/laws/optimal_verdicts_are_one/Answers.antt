use Rattle.cert_check.proofs.OneVerdict.{one_optimal_verdict}
use Rattle.cert_check.proofs.laws.optimal_verdicts_are_one.Goals as goal

pub returns : goal.returns
returns c = one_optimal_verdict
