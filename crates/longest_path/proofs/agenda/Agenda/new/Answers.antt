use Rattle.std.proofs.Common.{ℕ, ◌≡◌, ◌≤◌, List, Bool, true, false, sym, subst, arith, ◌∙◌, ap, length}
use Rattle.longest_path.specs.Cells.{no_marks, cell_count}
use Rattle.longest_path.specs.declared.agenda.Waiting.{Waiting}
use Rattle.longest_path.proofs.RowCounts.{rows_count}
use Rattle.longest_path.proofs.Zeros.{same_rows_for, same_at}
use Rattle.longest_path.proofs.Agendas.{Waits, waits_none}
use Rattle.longest_path.proofs.agenda.Agenda.new.Goals as goal

pub invariant_of-result : goal.invariant_of-result
invariant_of-result c =
    let g = c.args.graph.now in
    let count : cell_count c.in_ok-marks.marks ≡ cell_count (no_marks g) = ap (λ (marks : List (List Bool)). cell_count marks) c.in_ok-marks.ensures in
    let items = ap (λ (list : List Waiting). length list) c.in_ok-heap.ensures.empty in
    record {
      room = omega (arith, count, rows_count {X = Bool} g (no_marks g) (same_rows_for false g), c.in_ok-heap.ensures.room, c.visit_count.ensures);
      length = omega (arith, items, c.in_ok-heap.ensures.len);
      few = omega (arith, c.in_ok-heap.ensures.len);
      each = waits_none _ g c.in_ok-marks.marks c.in_ok-marks.ensures;
    }
