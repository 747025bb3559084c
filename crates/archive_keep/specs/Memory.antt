-- What a keeper in memory is: its runs in the order in which they were stored, and how its calls are counted.
use Rattle.std.specs.Prelude.{◌≡◌, ◌⊎◌, ℕ, ◌≤◌, Bool, false, IsTrue, IsErrOf, Result, List, [], ◌∷◌, flat_map, length, All, Contains, bytes_eq, ⊤}
use Rattle.std.specs.List.{list_any}
use Rattle.archive_keep.specs.declared.keeper.KeepFault.{KeepFault}
use Rattle.archive_keep.specs.declared.keeper.KeepFault.TheVariants.{Failed}
use Rattle.archive_keep.specs.declared.calls.Calls.{Calls}
use Rattle.archive_keep.specs.declared.kept_run.KeptRun.{KeptRun}
use Rattle.archive_keep.specs.Faults.{one_more}
use Rattle.archive_keep.specs.Rows.{KeptRow, run_limit, rows_of, run_count, IsStorable}

-- a keeper in memory
pub record MemoryState : Type 0 where
  pub runs : List KeptRun
  pub calls : Calls

-- the rows of runs
abbrev pub table_of : List KeptRun → List KeptRow
table_of runs = flat_map (λ kept. rows_of kept.run kept.ends) runs

-- whether a run has this name
abbrev pub is_named : List KeptRun → List ℕ → Bool
is_named runs run = list_any (λ kept. bytes_eq kept.run run) runs

-- no two runs have one name
abbrev pub AreApart : List KeptRun → Type 0
AreApart [] = ⊤
AreApart (kept ∷ runs) = (is_named runs kept.run ≡ false) × AreApart runs

-- runs as a keeper in memory holds them
pub record AreRuns (runs : List KeptRun) : Type 0 where
  pub apart : AreApart runs
  pub storable : All (λ kept. IsStorable kept.ends) runs
  pub counted : run_count (table_of runs) ≡ length runs
  pub few : length runs ≤ run_limit

-- the next call is set to fail: its number is on the list, or it needs an archive, and none is attached
abbrev pub IsSetToFail : Bool → Calls → Type 0
IsSetToFail needs_archive calls = Contains calls.failing.items (one_more calls.made) ⊎ (IsTrue needs_archive × (calls.attached ≡ false))

-- a call was counted, the list of those that are to fail stays, and the faults rise by one where it failed, and else not
pub record CountsCall {T : Type 0} (old new : Calls) (result : Result T KeepFault) : Type 0 where
  pub made : new.made ≡ one_more old.made
  pub failing : new.failing ≡ old.failing
  pub one_fault : IsErrOf result Failed → new.faults ≡ one_more old.faults
  pub no_fault : (IsErrOf result Failed → ⊥) → new.faults ≡ old.faults
