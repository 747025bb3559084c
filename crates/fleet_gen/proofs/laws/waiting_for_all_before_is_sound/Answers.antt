use Rattle.fleet_gen.proofs.OnePlan.{may_wait_for_all}
use Rattle.fleet_gen.proofs.laws.waiting_for_all_before_is_sound.Goals as goal

pub returns : goal.returns
returns c = may_wait_for_all
