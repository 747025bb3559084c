use Rattle.std.proofs.Common.{ℕ, ◌-◌, ◌<◌, ◌≤◌, length}
use Rattle.plan_check.specs.Ticks.{IsMarked, AreOut}
use Rattle.plan_check.proofs.rotations.rotation_at.Given as goal

abbrev pub invariant-loop-head : goal.invariant-loop-head
invariant-loop-head l = record {
  size : length l.raw ≤ length l.marks;
  out : AreOut l.raw (l.tick - 1) l.marks;
  done : (i : ℕ) → i < l.head → IsMarked l.marks i;
}
