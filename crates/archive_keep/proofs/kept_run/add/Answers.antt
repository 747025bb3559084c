use Rattle.std.proofs.Common.{◌≡◌, ◌∷◌, ◌++◌, ◌∙◌, List, ℕ, [], Ok, true, false, sym, ap, subst, arith}
use Rattle.archive_keep.specs.declared.ends.RobotEnd.{RobotEnd}
use Rattle.archive_keep.specs.declared.kept_run.KeptRun.{KeptRun}
use Rattle.archive_keep.specs.declared.keeper.Stored.TheVariants.{New}
use Rattle.archive_keep.specs.Rows.{IsStorable}
use Rattle.archive_keep.specs.Storing.{Stores}
use Rattle.archive_keep.specs.Memory.{AreRuns, is_named, table_of}
use Rattle.archive_keep.proofs.Runs.{stores_kept, stores_full, stores_new, runs_push}
use Rattle.archive_keep.proofs.kept_run.add.Goals as goal

pub returns-then-is_some-clause-stores : goal.returns-then-is_some-clause-stores
returns-then-is_some-clause-stores c =
    let named = ap (λ runs. is_named runs c.args.run.now) (sym c.deref.ensures.value) ∙ sym c.find.ensures.named ∙ sym c.is_some.ensures ∙ c.if-is_some.true in
    stores_kept c.args.runs.now.items c.args.run.now c.args.ends.now c.requires.runs named

pub returns-then-len-ge-RUNS-clause-stores : goal.returns-then-len-ge-RUNS-clause-stores
returns-then-len-ge-RUNS-clause-stores c =
    let named = ap (λ runs. is_named runs c.args.run.now) (sym c.deref.ensures.value) ∙ sym c.find.ensures.named ∙ sym c.is_some.ensures ∙ c.if-is_some.false in
    stores_full c.args.runs.now.items c.args.run.now c.args.ends.now c.requires.runs named (omega (arith, c.if-len-ge-RUNS.true, c.len.ensures, c.args.runs.now.ok))

pub returns-clause-stores : goal.returns-clause-stores
returns-clause-stores c =
    let run = c.args.run.now in
    let runs = c.args.runs.now.items in
    let named : is_named runs run ≡ false = ap (λ rs. is_named rs run) (sym c.deref.ensures.value) ∙ sym c.find.ensures.named ∙ sym c.is_some.ensures ∙ c.if-is_some.false in
    let new : KeptRun = record { run = run; ends = c.args.ends.now } in
    rw (c.in_ok-push.ensures.items, c.in_ok-kept.ensures) (stores_new runs new c.requires.runs named (omega (arith, c.if-len-ge-RUNS.false, c.len.ensures, c.args.runs.now.ok)))

pub returns-clause-runs : goal.returns-clause-runs
returns-clause-runs c =
    let run = c.args.run.now in
    let runs = c.args.runs.now.items in
    let named : is_named runs run ≡ false = ap (λ rs. is_named rs run) (sym c.deref.ensures.value) ∙ sym c.find.ensures.named ∙ sym c.is_some.ensures ∙ c.if-is_some.false in
    let new : KeptRun = record { run = run; ends = c.args.ends.now } in
    rw (c.in_ok-push.ensures.items, c.in_ok-kept.ensures) (runs_push runs new c.requires.runs named c.requires.ends (omega (arith, c.if-len-ge-RUNS.false, c.len.ensures, c.args.runs.now.ok)))
