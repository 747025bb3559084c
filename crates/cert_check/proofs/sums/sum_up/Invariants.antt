-- The robots so far have their sums.
use Rattle.std.proofs.Common.{◌≡◌, ◌*◌, ◌<◌, ◌≤◌}
use Rattle.fleet_base.specs.declared.geometry.Visit.{Visit}
use Rattle.fleet_base.specs.Order.{IsVisit}
use Rattle.fleet_base.specs.Paths.{travel}
use Rattle.fleet_base.specs.VisitRows.{tick_in, KeepsRows}
use Rattle.cert_check.specs.Sums.{first_of}
use Rattle.cert_check.proofs.sums.sum_up.Given as goal

abbrev pub invariant-loop-robot : goal.invariant-loop-robot
invariant-loop-robot l = record {
  sums : (v : Visit) → IsVisit l.graph v → v.robot < l.robot → (tick_in l.sums v ≡ travel l.fleet (first_of v.robot) v.index) × (travel l.fleet (first_of v.robot) v.index ≤ v.index * 1000001);
  rows : KeepsRows l.fn.sums l.sums;
}
