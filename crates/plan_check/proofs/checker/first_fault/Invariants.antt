use Rattle.std.proofs.Common.{◌-◌, ◌≤◌}
use Rattle.plan_check.specs.Occupants.{HasOccupants}
use Rattle.plan_check.specs.Ticks.{NoneBefore}
use Rattle.plan_check.proofs.checker.first_fault.Given as goal

abbrev pub invariant-loop-tick : goal.invariant-loop-tick
invariant-loop-tick l = record {
  none : NoneBefore l.grid l.raw l.tick 1;
  former : 1 ≤ l.tick → HasOccupants l.occupants l.raw (l.tick - 1) 0;
}
