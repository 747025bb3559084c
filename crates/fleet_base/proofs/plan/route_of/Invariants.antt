use Rattle.std.proofs.Common.{◌≡◌, ◌+◌, ◌++◌, drop}
use Rattle.fleet_base.specs.Plan.{later_visits, visits_of_path}
use Rattle.fleet_base.proofs.plan.route_of.Given as goal

-- what is listed, and what still follows the cell before, are the visits of the path
abbrev pub invariant-loop-before : goal.invariant-loop-before
invariant-loop-before l = l.route ++ later_visits l.here (l.before + 1) (drop l.before l.rest) ≡ visits_of_path l.fn.cells
