-- The ticks of the robots so far are 0, and the rows are as long as they were.
use Rattle.std.proofs.Common.{◌≡◌, ◌<◌, ℕ, map, length, get_or}
use Rattle.fleet_base.specs.Lists.{row_of}
use Rattle.cert_check.proofs.rounds.forget.Given as goal

abbrev pub invariant-loop-robot : goal.invariant-loop-robot
invariant-loop-robot l = ((i k : ℕ) → i < l.robot → get_or (row_of l.ticks i) k 0 ≡ 0) × (map length l.ticks ≡ map length l.fn.ticks)

abbrev pub invariant-loop-index : goal.invariant-loop-index
invariant-loop-index l = ((i k : ℕ) → i < l.robot → get_or (row_of l.ticks i) k 0 ≡ 0) × ((k : ℕ) → k < l.index → get_or (row_of l.ticks l.robot) k 0 ≡ 0) × (map length l.ticks ≡ map length l.fn.ticks)
