use Rattle.plan_check.proofs.Accepted.{accepted_faultless, faultless_accepted}
use Rattle.plan_check.proofs.laws.accepted_where_faultless.Goals as goal

pub returns : goal.returns
returns c = λ grid plan robots. (accepted_faultless grid plan, faultless_accepted grid plan robots)
