use Rattle.fleet_gen.proofs.OnePlan.{one_plan_of_seed}
use Rattle.fleet_gen.proofs.laws.a_seed_has_one_plan.Goals as goal

pub returns : goal.returns
returns c = one_plan_of_seed
