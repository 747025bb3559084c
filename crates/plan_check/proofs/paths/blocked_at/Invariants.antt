use Rattle.std.proofs.Common.{ℕ, ◌<◌}
use Rattle.plan_check.specs.declared.fault.Unsound.TheVariants.{Blocked}
use Rattle.plan_check.specs.Faults.{IsFault}
use Rattle.plan_check.proofs.paths.blocked_at.Given as goal

abbrev pub invariant-loop-robot : goal.invariant-loop-robot
invariant-loop-robot l = (i : ℕ) → i < l.robot → IsFault l.grid l.raw (Blocked i l.tick) → ⊥
