use Rattle.std.proofs.Common.{◌≡◌, ◌∙◌, List, Bor, IfSome, is_some, filter, bytes_eq, sym, ap, subst}
use Rattle.archive_keep.specs.declared.ends.RobotEnd.{RobotEnd}
use Rattle.archive_keep.specs.declared.kept_run.KeptRun.{KeptRun}
use Rattle.archive_keep.specs.Rows.{KeptRow, rows_of, has_run}
use Rattle.archive_keep.specs.Memory.{MemoryState, AreApart, table_of, is_named}
use Rattle.archive_keep.proofs.Runs.{table_has}
use Rattle.archive_keep.proofs.mem_keeper.MemKeeper.ends.Goals as goal

pub returns-clause-some : goal.returns-clause-some
returns-clause-some c =
    let value = c.deref.ensures.value in
    let same = value ∙ ap (λ (s : MemoryState). s.runs) c.self.view_is in
    subst (λ (runs : List KeptRun). IfSome c.find.result (λ (ends : Bor (List RobotEnd)). filter (λ (row : KeptRow). bytes_eq row.run c.args.run.now) (table_of runs) ≡ rows_of c.args.run.now ends.now)) same
    (c.find.ensures.rows (subst AreApart (sym value) c.self.invariant.apart))

pub returns-clause-there : goal.returns-clause-there
returns-clause-there c =
    let run = c.args.run.now in
    c.find.ensures.named ∙ ap (λ runs. is_named runs run) c.deref.ensures.value
    ∙ sym (table_has c.self.inside.runs.items run c.self.invariant.storable)
    ∙ ap (λ (s : MemoryState). has_run (table_of s.runs) run) c.self.view_is
