use Rattle.std.proofs.Common.{◌≤◌, length}
use Rattle.plan_check.proofs.Walking.{Walk, unmarked}
use Rattle.plan_check.proofs.rotations.ring_from.Given as goal

abbrev pub invariant-loop-marks : goal.invariant-loop-marks
invariant-loop-marks l = record { size : length l.raw ≤ length l.marks; walk : Walk l.raw l.tick l.fn.marks l.marks l.head l.robot l.walk }

abbrev pub decreases-loop-marks : goal.decreases-loop-marks
decreases-loop-marks l = unmarked l.marks
