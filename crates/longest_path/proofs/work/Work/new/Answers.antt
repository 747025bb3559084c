use Rattle.std.proofs.Common.{ℕ, ◌≡◌, List, Bool, true, false, sym, ap, ◌∙◌, subst}
use Rattle.fleet_base.specs.declared.geometry.Visit.{Visit}
use Rattle.fleet_base.specs.VisitRows.{AreRowsFor}
use Rattle.longest_path.specs.Cells.{AreAlike, is_marked, no_marks}
use Rattle.longest_path.proofs.Zeros.{same_rows, same_rows_for, same_at, zero_rows}
use Rattle.longest_path.proofs.Working.{rows_alike}
use Rattle.longest_path.proofs.work.Work.new.Goals as goal

pub returns-clause-idle : goal.returns-clause-idle
returns-clause-idle c =
    let g = c.args.graph.now in
    record {
      waiting = λ v. ap (λ (m : List (List Bool)). is_marked m v) c.in_ok-waiting.ensures ∙ same_at false g v;
      raised = λ v. ap (λ (m : List (List Bool)). is_marked m v) c.in_ok-raised.ensures ∙ same_at false g v;
    }

pub returns-clause-room : goal.returns-clause-room
returns-clause-room c =
    let g = c.args.graph.now in
    λ rows are. record {
      waiting = subst (λ (m : List (List Bool)). AreAlike rows m) (sym c.in_ok-waiting.ensures) (rows_alike g rows (no_marks g) are (same_rows_for false g));
      raised = subst (λ (m : List (List Bool)). AreAlike rows m) (sym c.in_ok-raised.ensures) (rows_alike g rows (no_marks g) are (same_rows_for false g));
      saved = subst (λ (m : List (List ℕ)). AreAlike rows m) (sym c.in_ok-saved.ensures) (rows_alike g rows (zero_rows g) are (same_rows_for 0 g));
    }
