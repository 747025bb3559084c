-- Names, each once: what one more item, and the rows of one more run, make of them.
use Rattle.std.proofs.Common.{ℕ, zero, suc, get_or, subst, ◌≡◌, ◌+◌, ◌<◌, ◌≤◌, Bool, true, false, not, cond, ◌||◌, List, [], ◌∷◌, ◌++◌, map, filter, flat_map, length, All, bytes_eq, sym, ap, ◌∙◌, refl, append_assoc, append-nil, length-append, arith, rules}
use Rattle.std.specs.List.{list_any, enumerate_from}
use Rattle.std.proofs.lemmas.Bool.{cases_Bool, both_ways}
use mathlib.Core.Logic.{inl, inr}
use Rattle.std.proofs.lemmas.List.Elements.{filter-append, All-tail}
use Rattle.std.proofs.lemmas.List.Folds.{list_any-append, list_any_at}
use Rattle.std.proofs.lemmas.Slice.Eq.{bytes_eq-Decides}
use Rattle.archive_keep.specs.declared.ends.RobotEnd.{RobotEnd}
use Rattle.archive_keep.specs.declared.kept_run.KeptRun.{KeptRun}
use Rattle.archive_keep.specs.Memory.{table_of, is_named, AreApart}
use Rattle.archive_keep.specs.Rows.{KeptRow, rows_of, has_run, firsts, run_count}

pub or_false : (x y : Bool) → (x || y) ≡ false → (x ≡ false) × (y ≡ false)
or_false true y none = absurd (both_ways true none refl)
or_false false y none = (refl, none)

-- names that are the same
pub bytes_same : (a : List ℕ) → bytes_eq a a ≡ true
bytes_same a = (bytes_eq-Decides a a).1 refl

pub bytes_sym : (a b : List ℕ) → bytes_eq a b ≡ bytes_eq b a
bytes_sym a b =
    elim (cases_Bool (bytes_eq a b)) [
      | inl is ↦ is ∙ sym ((bytes_eq-Decides b a).1 (sym ((bytes_eq-Decides a b).0 is)))
      | inr isnt ↦ elim (cases_Bool (bytes_eq b a)) [
        | inl is ↦ absurd (both_ways (bytes_eq a b) isnt ((bytes_eq-Decides a b).1 (sym ((bytes_eq-Decides b a).0 is))))
        | inr other ↦ isnt ∙ sym other
      ]
    ]

-- one item behind another: it stays where its name is neither that one's nor known
one_kept : {X : Type 0} (b c h : Bool) (x : X) (p : X → Bool) → p x ≡ not c → b ≡ c → filter p (cond h [] (x ∷ [])) ≡ cond (b || h) [] (x ∷ [])
one_kept true true true x p e s = refl
one_kept true true false x p e s = rw e refl
one_kept false false true x p e s = refl
one_kept false false false x p e s = rw e refl
one_kept true false h x p e s = absurd (both_ways false refl (sym s))
one_kept false true h x p e s = absurd (both_ways false refl s)

-- one more item is a first one where its name is not there
pub firsts_push : {X : Type 0} (name : X → List ℕ) (xs : List X) (c : X) → firsts name (xs ++ c ∷ []) ≡ firsts name xs ++ cond (list_any (λ y. bytes_eq (name y) (name c)) xs) [] (c ∷ [])
firsts_push name [] c = refl
firsts_push {X} name (x ∷ xs) c =
    let p : X → Bool = λ y. not (bytes_eq (name y) (name x)) in
    let known : Bool = list_any (λ y. bytes_eq (name y) (name c)) xs in
    ap (λ l. x ∷ filter p l) (firsts_push name xs c)
    ∙ ap (λ l. x ∷ l) (filter-append p (firsts name xs) (cond known [] (c ∷ [])) ∙ ap (λ l. filter p (firsts name xs) ++ l) (one_kept (bytes_eq (name x) (name c)) (bytes_eq (name c) (name x)) known c p refl (bytes_sym (name x) (name c))))

pub firsts_known : {X : Type 0} (name : X → List ℕ) (xs : List X) (c : X) → list_any (λ y. bytes_eq (name y) (name c)) xs ≡ true → firsts name (xs ++ c ∷ []) ≡ firsts name xs
firsts_known name xs c known = firsts_push name xs c ∙ rw known (append-nil (firsts name xs))

pub firsts_new : {X : Type 0} (name : X → List ℕ) (xs : List X) (c : X) → list_any (λ y. bytes_eq (name y) (name c)) xs ≡ false → firsts name (xs ++ c ∷ []) ≡ firsts name xs ++ c ∷ []
firsts_new name xs c new = firsts_push name xs c ∙ rw new refl

-- the rows of a run from one of its robots on
abbrev pub rows_from : ℕ → List ℕ → List RobotEnd → List KeptRow
rows_from k run ends = map (λ place. record { run = run; robot = place.0; ticks = place.1 }) (enumerate_from k ends)

-- a name is among the rows of a run as it is the run's
pub other_run : (k : ℕ) (run m : List ℕ) (ends : List RobotEnd) → bytes_eq run m ≡ false → has_run (rows_from k run ends) m ≡ false
other_run k run m [] other = refl
other_run k run m (e ∷ es) other = rw other (other_run (k + 1) run m es other)

pub this_run : (run m : List ℕ) (ends : List RobotEnd) → 0 < length ends → has_run (rows_of run ends) m ≡ bytes_eq run m
this_run run m [] some = absurd (omega (arith, some))
this_run run m (e ∷ es) some =
    elim (cases_Bool (bytes_eq run m)) [
      | inl is ↦ rw is refl
      | inr isnt ↦ rw isnt (other_run (0 + 1) run m es isnt)
    ]

-- more rows of a name that is there bring no new name
more_rows : (k : ℕ) (run : List ℕ) (ends : List RobotEnd) (rows : List KeptRow) → has_run rows run ≡ true → firsts (λ row. row.run) (rows ++ rows_from k run ends) ≡ firsts (λ row. row.run) rows
more_rows k run [] rows there = ap (firsts (λ (row : KeptRow). row.run)) (append-nil rows)
more_rows k run (e ∷ es) rows there =
    let row : KeptRow = record { run = run; robot = k; ticks = e } in
    let still : has_run (rows ++ row ∷ []) run ≡ true = list_any-append (λ (r : KeptRow). bytes_eq r.run run) rows (row ∷ []) ∙ rw there refl in
    ap (firsts (λ (r : KeptRow). r.run)) (sym (append_assoc rows (row ∷ []) (rows_from (k + 1) run es)))
    ∙ more_rows (k + 1) run es (rows ++ row ∷ []) still
    ∙ firsts_known (λ (r : KeptRow). r.run) rows row there

-- the rows of a run of a new name count one more
pub one_more_run : (run : List ℕ) (ends : List RobotEnd) (rows : List KeptRow) → has_run rows run ≡ false → 0 < length ends → run_count (rows ++ rows_of run ends) ≡ run_count rows + 1
one_more_run run [] rows new some = absurd (omega (arith, some))
one_more_run run (e ∷ es) rows new some =
    let row : KeptRow = record { run = run; robot = 0; ticks = e } in
    let still : has_run (rows ++ row ∷ []) run ≡ true = list_any-append (λ (r : KeptRow). bytes_eq r.run run) rows (row ∷ []) ∙ rw (new, bytes_same run) refl in
    ap length (ap (firsts (λ (r : KeptRow). r.run)) (sym (append_assoc rows (row ∷ []) (rows_from (0 + 1) run es)))
    ∙ more_rows (0 + 1) run es (rows ++ row ∷ []) still
    ∙ firsts_new (λ (r : KeptRow). r.run) rows row new)
    ∙ length-append (firsts (λ (r : KeptRow). r.run) rows) (row ∷ [])

-- a name is among the rows of runs as it is among the runs
pub runs_have : {X : Type 0} (name : X → List ℕ) (ends : X → List RobotEnd) (m : List ℕ) (xs : List X) → All (λ x. 0 < length (ends x)) xs → has_run (flat_map (λ x. rows_of (name x) (ends x)) xs) m ≡ list_any (λ x. bytes_eq (name x) m) xs
runs_have name ends m [] all = refl
runs_have name ends m (x ∷ xs) all =
    list_any-append (λ (r : KeptRow). bytes_eq r.run m) (rows_of (name x) (ends x)) (flat_map (λ y. rows_of (name y) (ends y)) xs)
    ∙ rw (this_run (name x) m (ends x) (all 0 x (omega arith)), runs_have name ends m xs (All-tail (λ y. 0 < length (ends y)) x xs all)) refl

-- the rows under the name of a run, and under another name
all_of_run : (k : ℕ) (run : List ℕ) (ends : List RobotEnd) → filter (λ row. bytes_eq row.run run) (rows_from k run ends) ≡ rows_from k run ends
all_of_run k run [] = refl
all_of_run k run (e ∷ es) =
    let row : KeptRow = record { run = run; robot = k; ticks = e } in
    rw (bytes_same run) (ap (λ l. row ∷ l) (all_of_run (k + 1) run es))

none_of_run : (k : ℕ) (run m : List ℕ) (ends : List RobotEnd) → bytes_eq run m ≡ false → filter (λ row. bytes_eq row.run m) (rows_from k run ends) ≡ []
none_of_run k run m [] other = refl
none_of_run k run m (e ∷ es) other = rw other (none_of_run (k + 1) run m es other)

none_named : (runs : List KeptRun) (m : List ℕ) → is_named runs m ≡ false → filter (λ row. bytes_eq row.run m) (table_of runs) ≡ []
none_named [] m none = refl
none_named (kept ∷ runs) m none =
    let parts = or_false (bytes_eq kept.run m) (is_named runs m) none in
    filter-append (λ (row : KeptRow). bytes_eq row.run m) (rows_of kept.run kept.ends) (table_of runs)
    ∙ rw (none_of_run 0 kept.run m kept.ends parts.0) (none_named runs m parts.1)

-- where no two runs have one name, the rows under a run's name are its own
pub rows_of_named : (runs : List KeptRun) (i : ℕ) (kept : KeptRun) → AreApart runs → i < length runs → kept ≡ get_or runs i kept → filter (λ row. bytes_eq row.run kept.run) (table_of runs) ≡ rows_of kept.run kept.ends
rows_of_named [] i kept apart inside is = absurd (omega (arith, inside))
rows_of_named (x ∷ runs) zero kept apart inside is =
    let none = subst (λ (k : KeptRun). is_named runs k.run ≡ false) (sym is) apart.0 in
    filter-append (λ (row : KeptRow). bytes_eq row.run kept.run) (rows_of x.run x.ends) (table_of runs)
    ∙ subst (λ (k : KeptRun). filter (λ (row : KeptRow). bytes_eq row.run kept.run) (rows_of k.run k.ends) ++ filter (λ (row : KeptRow). bytes_eq row.run kept.run) (table_of runs) ≡ rows_of kept.run kept.ends) is
    (rw (all_of_run 0 kept.run kept.ends, none_named runs kept.run none) (append-nil (rows_of kept.run kept.ends)))
rows_of_named (x ∷ runs) (suc i) kept apart inside is =
    let within : i < length runs = omega (arith, inside) in
    let there : is_named runs kept.run ≡ true = list_any_at (λ (k : KeptRun). bytes_eq k.run kept.run) runs i kept within (subst (λ (k : KeptRun). bytes_eq k.run kept.run ≡ true) is (bytes_same kept.run)) in
    let other : bytes_eq x.run kept.run ≡ false =
    elim (cases_Bool (bytes_eq x.run kept.run)) [
      | inl same ↦ absurd (both_ways (is_named runs kept.run) (subst (λ (m : List ℕ). is_named runs m ≡ false) ((bytes_eq-Decides x.run kept.run).0 same) apart.0) there)
      | inr differs ↦ differs
    ] in
    filter-append (λ (row : KeptRow). bytes_eq row.run kept.run) (rows_of x.run x.ends) (table_of runs)
    ∙ rw (none_of_run 0 x.run kept.run x.ends other) (rows_of_named runs i kept apart.1 within is)
