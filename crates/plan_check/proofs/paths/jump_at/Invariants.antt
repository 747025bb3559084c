use Rattle.std.proofs.Common.{ℕ, ◌<◌}
use Rattle.plan_check.specs.Ticks.{Jumps}
use Rattle.plan_check.proofs.paths.jump_at.Given as goal

abbrev pub invariant-loop-robot : goal.invariant-loop-robot
invariant-loop-robot l = (i : ℕ) → i < l.robot → Jumps l.raw i l.tick → ⊥
