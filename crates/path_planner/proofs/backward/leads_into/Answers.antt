use Rattle.std.proofs.Common.{ℕ, get_or, below_more, arith}
use Rattle.std.specs.Prelude.{Contains}
use Rattle.fleet_base.specs.Plan.{no_cell}
use Rattle.plan_steps.specs.Steps.{MayStep}
use Rattle.path_planner.proofs.Retrace.{leads_nowhere}
use Rattle.path_planner.proofs.backward.leads_into.Goals as goal
use Rattle.path_planner.proofs.backward.leads_into.Goals.{else-is_listed-via-then-is_listed+else-may_step, else-is_listed-via-else-is_listed}

pub loop-to-preserved : goal.loop-to-preserved
loop-to-preserved c =
    below_more (λ (k : ℕ). Contains c.args.next.now (get_or c.around-to-items.result k no_cell) → MayStep c.args.grid.now c.args.fixed.now c.args.tick c.args.from (get_or c.around-to-items.result k no_cell) → ⊥) c.loop-to.to-index c.loop-to.invariant
    (elim c.else-is_listed.branch [
      | else-is_listed-via-then-is_listed+else-may_step w ↦ λ there step. w.may_step.ensures.no w.if-may_step.false step
      | else-is_listed-via-else-is_listed w ↦ λ there step. c.is_listed.ensures.no w.if-is_listed.false there
    ])

pub returns-clause-no : goal.returns-clause-no
returns-clause-no c = λ _ leads.
    leads_nowhere c.args.grid.now c.args.fixed.now c.args.tick c.args.from c.args.next.now c.around-to-items.result c.loop-to.to-index c.loop-to.invariant
    (omega (arith, c.loop-to-test.false, c.around-to-items.ensures.count)) c.around-to-items.ensures.all leads
