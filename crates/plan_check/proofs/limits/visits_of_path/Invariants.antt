use Rattle.std.proofs.Common.{◌≡◌, ◌+◌, ◌≤◌, drop, length}
use Rattle.fleet_base.specs.Plan.{later_visits, visits_of_path}
use Rattle.plan_check.proofs.limits.visits_of_path.Given as goal

abbrev pub invariant-loop-cell : goal.invariant-loop-cell
invariant-loop-cell l = record {
  few : l.visits ≤ l.cell-index + 1;
  count : l.visits + length (later_visits l.here (l.cell-index + 1) (drop l.cell-index l.rest)) ≡ length (visits_of_path l.fn.cells);
}
