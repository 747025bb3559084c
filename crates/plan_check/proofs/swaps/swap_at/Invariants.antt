use Rattle.std.proofs.Common.{ℕ, ◌<◌}
use Rattle.plan_check.specs.Ticks.{Swaps}
use Rattle.plan_check.proofs.swaps.swap_at.Given as goal

abbrev pub invariant-loop-robot : goal.invariant-loop-robot
invariant-loop-robot l = (i : ℕ) → i < l.robot → (j : ℕ) → Swaps l.raw l.tick i j → ⊥
