use Rattle.std.proofs.Common.{◌≡◌, ◌∙◌, ℕ, List, false, sym, subst, filter, arith, bytes_eq}
use Rattle.std.proofs.lemmas.List.{take_all}
use Rattle.std.proofs.lemmas.Slice.Eq.{bytes_eq-Decides}
use Rattle.archive_keep.specs.declared.kept_run.KeptRun.{KeptRun}
use Rattle.archive_keep.specs.Rows.{KeptRow, rows_of}
use Rattle.archive_keep.specs.Memory.{table_of, is_named}
use Rattle.archive_keep.proofs.Firsts.{rows_of_named}
use Rattle.archive_keep.proofs.kept_run.find.Goals as goal

pub returns : goal.returns
returns c =
    let runs = c.args.runs.now in
    let run = c.args.run.now in
    let none = subst (λ (l : List KeptRun). is_named l run ≡ false) (take_all c.loop-kept.kept-index runs (omega (arith, c.loop-kept-test.false))) c.loop-kept.invariant in
    record { named = sym none; rows = λ _. tt }

pub returns-then-eq-clause-rows : goal.returns-then-eq-clause-rows
returns-then-eq-clause-rows c = λ apart.
    let runs = c.args.runs.now in
    let same = sym c.as_slice.ensures ∙ (bytes_eq-Decides c.as_slice.result.now c.args.run.now).0 (sym c.eq.ensures ∙ c.if-eq.true) in
    subst (λ (m : List ℕ). filter (λ (row : KeptRow). bytes_eq row.run m) (table_of runs) ≡ rows_of m c.kept-item.result.ends) same (rows_of_named runs c.loop-kept.kept-index c.kept-item.result apart c.loop-kept-test.true c.kept-item.is)
