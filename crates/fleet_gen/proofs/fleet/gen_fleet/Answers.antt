use Rattle.std.proofs.Common.{sym, ◌∙◌, subst}
use Rattle.fleet_base.specs.Grid.{OccupancyGrid}
use Rattle.fleet_base.specs.Plan.{IsAccepted}
use Rattle.fleet_gen.proofs.Generated.{ready, its_plan, its_plan_accepted, its_plan_arrives}
use Rattle.fleet_gen.proofs.fleet.gen_fleet.Goals as goal

pub depart_in_turn-requires : goal.depart_in_turn-requires
depart_in_turn-requires c = ready c.args.seed c.in_ok-grid.grid c.deref.result.now c.in_ok-grid.ensures.grid (c.deref.ensures.value ∙ c.in_ok-grid.ensures.roads)

pub returns-clause-plan : goal.returns-clause-plan
returns-clause-plan c =
    its_plan c.args.seed c.in_ok-grid.grid c.deref.result.now c.in_ok-grid.ensures.grid (c.deref.ensures.value ∙ c.in_ok-grid.ensures.roads) c.in_ok-plan.plan c.in_ok-plan.ensures.robots c.in_ok-plan.ensures.earliest

pub returns-clause-accepted : goal.returns-clause-accepted
returns-clause-accepted c =
    let plan = its_plan c.args.seed c.in_ok-grid.grid c.deref.result.now c.in_ok-grid.ensures.grid (c.deref.ensures.value ∙ c.in_ok-grid.ensures.roads) c.in_ok-plan.plan c.in_ok-plan.ensures.robots c.in_ok-plan.ensures.earliest in
    subst (λ (g : OccupancyGrid). IsAccepted g c.in_ok-plan.plan) (sym c.in_ok-grid.ensures.grid) (its_plan_accepted c.args.seed c.in_ok-plan.plan plan)

pub returns-clause-in_time : goal.returns-clause-in_time
returns-clause-in_time c = λ i h.
    its_plan_arrives c.args.seed c.in_ok-plan.plan
    (its_plan c.args.seed c.in_ok-grid.grid c.deref.result.now c.in_ok-grid.ensures.grid (c.deref.ensures.value ∙ c.in_ok-grid.ensures.roads) c.in_ok-plan.plan c.in_ok-plan.ensures.robots c.in_ok-plan.ensures.earliest) i h
