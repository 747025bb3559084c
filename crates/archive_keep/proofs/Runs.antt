-- The runs of a keeper in memory.
use Rattle.std.proofs.Common.{ℕ, ◌≡◌, ◌+◌, ◌<◌, ◌≤◌, ◌⊎◌, inl, inr, Bool, true, false, ◌||◌, List, [], ◌∷◌, ◌++◌, map, filter, flat_map, length, get_or, All, bytes_eq, sym, ap, ◌∙◌, refl, subst, append-nil, length-append, arith}
use Rattle.std.specs.List.{list_any}
use Rattle.std.proofs.lemmas.Bool.{cases_Bool, both_ways}
use Rattle.std.proofs.lemmas.List.Concat.{flat_map-append}
use Rattle.std.proofs.lemmas.List.Elements.{All-push}
use Rattle.std.proofs.lemmas.List.Folds.{list_any-append}
use Rattle.archive_keep.specs.declared.ends.RobotEnd.{RobotEnd}
use Rattle.archive_keep.specs.declared.kept_run.KeptRun.{KeptRun}
use Rattle.archive_keep.specs.Rows.{KeptRow, run_limit, rows_of, has_run, run_count, IsStorable}
use Rattle.std.specs.Prelude.{Ok}
use Rattle.archive_keep.specs.declared.keeper.Stored.TheVariants.{New, Kept, Full}
use Rattle.archive_keep.specs.Storing.{Stores}
use Rattle.archive_keep.specs.Memory.{table_of, is_named, AreApart, AreRuns}
use Rattle.archive_keep.proofs.Firsts.{bytes_sym, or_false, one_more_run, runs_have}

-- a name is among the rows as it is among the runs
pub table_has : (runs : List KeptRun) (run : List ℕ) → All (λ kept. IsStorable kept.ends) runs → has_run (table_of runs) run ≡ is_named runs run
table_has runs run storable = runs_have (λ (k : KeptRun). k.run) (λ (k : KeptRun). k.ends) run runs (λ i k h. (storable i k h).some)

-- a run of a new name keeps the runs apart
apart_push : (runs : List KeptRun) (kept : KeptRun) → AreApart runs → is_named runs kept.run ≡ false → AreApart (runs ++ kept ∷ [])
apart_push [] kept apart new = (refl, tt)
apart_push (x ∷ runs) kept apart new =
    let parts = or_false (bytes_eq x.run kept.run) (is_named runs kept.run) new in
    (list_any-append (λ (k : KeptRun). bytes_eq k.run x.run) runs (kept ∷ []) ∙ rw (apart.0, bytes_sym kept.run x.run, parts.0) refl, apart_push runs kept apart.1 parts.1)

-- the rows with one more run
pub table_push : (runs : List KeptRun) (kept : KeptRun) → table_of (runs ++ kept ∷ []) ≡ table_of runs ++ rows_of kept.run kept.ends
table_push runs kept = flat_map-append (λ (k : KeptRun). rows_of k.run k.ends) runs (kept ∷ []) ∙ ap (λ l. table_of runs ++ l) (append-nil (rows_of kept.run kept.ends))

-- one more run of a new name, where there is room
pub runs_push : (runs : List KeptRun) (kept : KeptRun) → AreRuns runs → is_named runs kept.run ≡ false → IsStorable kept.ends → length runs < run_limit → AreRuns (runs ++ kept ∷ [])
runs_push runs kept are new storable room =
    let longer = length-append runs (kept ∷ []) in
    record {
      apart = apart_push runs kept are.apart new;
      storable = All-push (λ (k : KeptRun). IsStorable k.ends) runs kept are.storable storable;
      counted = ap run_count (table_push runs kept) ∙ one_more_run kept.run kept.ends (table_of runs) (table_has runs kept.run are.storable ∙ new) storable.some ∙ ap (λ n. n + 1) are.counted ∙ sym longer;
      few = omega (arith, longer, room);
    }

-- what a store does where the name is there
pub stores_kept : (runs : List KeptRun) (run : List ℕ) (ends : List RobotEnd) → AreRuns runs → is_named runs run ≡ true → Stores run ends (table_of runs) (table_of runs) (Ok Kept)
stores_kept runs run ends are there =
    let has = table_has runs run are.storable ∙ there in
    record {
      kept = (λ e. has, λ h. refl);
      full = (λ e. cc, λ h. absurd (both_ways (has_run (table_of runs) run) h.0 has));
      added = λ e. absurd cc;
      same = λ e. refl;
      failed = λ e. inl refl;
      memory = λ e. refl;
    }

-- where it is not, and there is no room
pub stores_full : (runs : List KeptRun) (run : List ℕ) (ends : List RobotEnd) → AreRuns runs → is_named runs run ≡ false → run_limit ≤ length runs → Stores run ends (table_of runs) (table_of runs) (Ok Full)
stores_full runs run ends are new no-room =
    let has = table_has runs run are.storable ∙ new in
    record {
      kept = (λ e. cc, λ h. absurd (both_ways (has_run (table_of runs) run) has h));
      full = (λ e. (has, omega (arith, are.counted, no-room)), λ h. refl);
      added = λ e. absurd cc;
      same = λ e. refl;
      failed = λ e. inl refl;
      memory = λ e. refl;
    }

-- where it is not, and there is room
pub stores_new : (runs : List KeptRun) (kept : KeptRun) → AreRuns runs → is_named runs kept.run ≡ false → length runs < run_limit → Stores kept.run kept.ends (table_of runs) (table_of (runs ++ kept ∷ [])) (Ok New)
stores_new runs kept are new room =
    let has = table_has runs kept.run are.storable ∙ new in
    let added = table_push runs kept in
    record {
      kept = (λ e. cc, λ h. absurd (both_ways (has_run (table_of runs) kept.run) has h));
      full = (λ e. cc, λ h. absurd (omega (arith, h.1, are.counted, room)));
      added = λ e. added;
      same = λ e. absurd (e refl);
      failed = λ e. inr ((has, omega (arith, are.counted, room)), added);
      memory = λ e. cc;
    }
