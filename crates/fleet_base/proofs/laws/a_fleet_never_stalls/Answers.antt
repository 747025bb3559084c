use Rattle.fleet_base.proofs.Progress.{never_stalls}
use Rattle.fleet_base.proofs.laws.a_fleet_never_stalls.Goals as goal

pub returns : goal.returns
returns c g x s = never_stalls g x s
