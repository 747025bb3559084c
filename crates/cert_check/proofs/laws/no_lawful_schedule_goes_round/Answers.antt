use Rattle.cert_tree.proofs.Lawful.{never_round}
use Rattle.cert_check.proofs.laws.no_lawful_schedule_goes_round.Goals as goal

pub returns : goal.returns
returns c = λ g x order s cycle state keeps lawful obeys. never_round g x state order keeps s lawful.along obeys cycle
