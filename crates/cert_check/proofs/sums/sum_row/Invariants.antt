-- The sums of the visits so far are there, and nothing else is written.
use Rattle.std.proofs.Common.{◌≡◌, ◌*◌, ◌≤◌}
use Rattle.fleet_base.specs.declared.geometry.Visit.{Visit}
use Rattle.fleet_base.specs.Paths.{travel}
use Rattle.fleet_base.specs.VisitRows.{tick_in, KeepsRows}
use Rattle.cert_check.specs.Sums.{first_of, HasRowSums}
use Rattle.cert_check.proofs.sums.sum_row.Given as goal

abbrev pub invariant-loop-index : goal.invariant-loop-index
invariant-loop-index l = record {
  sum : l.sum ≡ travel l.fleet (first_of l.robot) l.index;
  short : l.sum ≤ l.index * 1000001;
  row : HasRowSums l.fleet l.sums l.robot l.index;
  others : (v : Visit) → (v.robot ≡ l.robot → ⊥) → tick_in l.sums v ≡ tick_in l.fn.sums v;
  rows : KeepsRows l.fn.sums l.sums;
}
