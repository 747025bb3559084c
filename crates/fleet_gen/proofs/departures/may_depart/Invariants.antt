use Rattle.std.proofs.Common.{ℕ, suc, ◌+◌, ◌<◌}
use Rattle.fleet_gen.specs.Roads.{cell_after}
use Rattle.plan_steps.specs.Steps.{MayStep}
use Rattle.fleet_gen.proofs.departures.may_depart.Given as goal

abbrev pub invariant-loop-moved : goal.invariant-loop-moved
invariant-loop-moved l = (m : ℕ) → m < l.moved → MayStep l.grid l.fixed (l.wait + m) (cell_after l.road m) (cell_after l.road (suc m))
