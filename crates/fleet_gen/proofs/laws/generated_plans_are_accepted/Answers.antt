use Rattle.fleet_gen.proofs.Generated.{its_plan_accepted}
use Rattle.fleet_gen.proofs.laws.generated_plans_are_accepted.Goals as goal

pub returns : goal.returns
returns c = its_plan_accepted
