use Rattle.std.proofs.Common.{ℕ, ◌≡◌, false}
use Rattle.fleet_base.specs.declared.geometry.Visit.{Visit}
use Rattle.longest_path.specs.Cells.{AreAlike, is_marked, mark_count}
use Rattle.longest_path.specs.Working.{IsWorkFor, IsKeptBy}
use Rattle.longest_path.proofs.work.Work.take_back.Given as goal

abbrev pub invariant-loop-v : goal.invariant-loop-v
invariant-loop-v l = record {
  kept : (base : Visit → ℕ) → IsKeptBy base l.initial.rows l.initial.self → IsKeptBy base l.rows l.self;
  none : (v : Visit) → is_marked l.self.waiting v ≡ false;
  alike : AreAlike l.initial.rows l.rows;
  room : IsWorkFor l.rows l.self;
}

abbrev pub decreases-loop-v : goal.decreases-loop-v
decreases-loop-v l = mark_count l.self.raised
