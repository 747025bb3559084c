use Rattle.std.proofs.Common.{ℕ, ◌+◌}
use Rattle.fleet_base.specs.declared.geometry.Visit.{Visit}
use Rattle.fleet_base.specs.VisitRows.{tick_in, AreRowsFor}
use Rattle.plan_graph.specs.Views.{order_in}
use Rattle.longest_path.specs.Cells.{mark_count}
use Rattle.longest_path.specs.Working.{IsWorkFor, IsKeptBy}
use Rattle.longest_path.specs.Rising.{IsUnderWay, Marked, headroom}
use Rattle.longest_path.proofs.spreading.spread.Given as goal

abbrev pub invariant-loop-tail : goal.invariant-loop-tail
invariant-loop-tail l = record {
  are : AreRowsFor l.view.graph l.rows;
  room : IsWorkFor l.rows l.work;
  kept : (base : Visit → ℕ) → IsKeptBy base l.initial.rows l.initial.work → IsKeptBy base l.rows l.work;
  under_way : IsUnderWay l.view.graph l.fleet (order_in l.view) l.tail l.given (tick_in l.rows) (Marked l.work.waiting);
}

abbrev pub decreases-loop-tail : goal.decreases-loop-tail
decreases-loop-tail l = mark_count l.work.waiting + headroom l.rows
