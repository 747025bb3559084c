use Rattle.std.proofs.Common.{ℕ, ◌<◌, get_or}
use Rattle.std.specs.Prelude.{Contains}
use Rattle.fleet_base.specs.Plan.{no_cell}
use Rattle.plan_steps.specs.Steps.{MayStep}
use Rattle.path_planner.proofs.backward.leads_into.Given as goal

abbrev pub invariant-loop-to : goal.invariant-loop-to
invariant-loop-to l = (k : ℕ) → k < l.to-index → Contains l.next (get_or l.to-items k no_cell) → MayStep l.grid l.fixed l.tick l.from (get_or l.to-items k no_cell) → ⊥
