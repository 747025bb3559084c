use Rattle.fleet_base.proofs.CrossingCost.{kept_cost, switched_cost, relaxed_cost}
use Rattle.fleet_base.proofs.examples.the_delayed_crossing_costs.Goals as goal

pub returns-clause-kept : goal.returns-clause-kept
returns-clause-kept c = kept_cost

pub returns-clause-switched : goal.returns-clause-switched
returns-clause-switched c = switched_cost

pub returns-clause-relaxed : goal.returns-clause-relaxed
returns-clause-relaxed c = relaxed_cost
