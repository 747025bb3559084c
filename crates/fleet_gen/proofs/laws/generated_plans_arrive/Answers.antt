use Rattle.fleet_gen.proofs.Generated.{its_plan_arrives}
use Rattle.fleet_gen.proofs.laws.generated_plans_arrive.Goals as goal

pub returns : goal.returns
returns c = λ seed i plan is h. its_plan_arrives seed plan is i h
