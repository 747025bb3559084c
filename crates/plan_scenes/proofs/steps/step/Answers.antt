use Rattle.std.proofs.Common.{List, refl, sym, subst}
use Rattle.fleet_base.specs.declared.order.PairId.{PairId}
use Rattle.fleet_base.specs.State.{FleetState}
use Rattle.fleet_base.specs.Rules.{IsFleetState}
use Rattle.fleet_core.specs.Preparing.{ChoiceIsRefused}
use Rattle.fleet_core.proofs.Delaying.{step_keeps_rules}
use Rattle.plan_scenes.proofs.steps.step.Goals as goal

pub returns-in-Ok-clause-rules : goal.returns-in-Ok-clause-rules
returns-in-Ok-clause-rules c =
    let made = c.in-Ok.ensures.step in
    subst (λ (x : FleetState). IsFleetState c.args.graph.now x) (sym (c.apply.ensures c.args.graph.now made.0 c.requires made.1)) (step_keeps_rules c.args.graph.now c.args.fleet.now _ _ _ made.0 c.requires made.1)

pub returns-in-Err-ChoiceRefused-clause-outcome : goal.returns-in-Err-ChoiceRefused-clause-outcome
returns-in-Err-ChoiceRefused-clause-outcome c =
    let refused =
    subst (λ (qs : List PairId). ChoiceIsRefused c.args.graph.now c.args.fleet.now c.args.event.now.0 qs c.in-Err-ChoiceRefused.pair c.in-Err-ChoiceRefused.why) c.in_ok-switched.ensures.named (rw c.in-Err-ChoiceRefused.field-0-is at c.in-Err-ChoiceRefused.ensures.refused) in
    (refl, rw (← c.in-Err-ChoiceRefused.pair-is, ← c.in-Err-ChoiceRefused.why-is) at refused)
