-- The rows of one robot.
use Rattle.std.proofs.Common.{ℕ, zero, suc, ◌≡◌, ◌+◌, ◌<◌, ◌≤◌, List, [], ◌∷◌, ◌++◌, map, filter, flat_map, length, get_or, take, All, sym, ap, ◌∙◌, refl, subst, arith, ◌==◌, append-nil, length-append}
use Rattle.std.specs.List.{enumerate_from}
use Rattle.std.specs.List.Sorted.{IsPermutation, IsSortedByKey}
use Rattle.std.specs.Ordering.{nat_cmp}
use Rattle.std.specs.Cmp.Lexicographic.{slice_cmp}
use Rattle.std.proofs.lemmas.Bool.{eq-eqb, ne_eqb}
use Rattle.std.proofs.lemmas.List.{map-append, get_or-map, length-map, take_more}
use Rattle.std.proofs.lemmas.List.Sorted.{IsPermutation-map, length_permutation, All-permutation}
use Rattle.std.proofs.lemmas.List.Concat.{flat_map-append}
use Rattle.std.proofs.lemmas.List.Elements.{filter-append, All-push}
use Rattle.archive_keep.specs.declared.ends.RobotEnd.{RobotEnd}
use Rattle.archive_keep.specs.declared.kept_run.KeptRun.{KeptRun}
use Rattle.archive_keep.specs.declared.kept_run.NamedEnd.{NamedEnd}
use Rattle.archive_keep.specs.Rows.{KeptRow, run_limit, rows_of, rows_with, IsEnd}
use Rattle.archive_keep.specs.Storing.{AreByName, AreKept}
use Rattle.archive_keep.specs.Memory.{table_of}
use Rattle.archive_keep.specs.Named.{row_of}
use Rattle.archive_keep.proofs.Firsts.{rows_from}

-- the rows from a later robot on have none of this one
none_later : (robot k : ℕ) (run : List ℕ) (ends : List RobotEnd) → robot < k → rows_with robot (rows_from k run ends) ≡ []
none_later robot k run [] later = refl
none_later robot k run (e ∷ es) later = rw (ne_eqb k robot (λ same. omega (arith, same, later))) (none_later robot (k + 1) run es (omega (arith, later)))

-- a robot of the run has one row
pub one_row : (k robot i : ℕ) (run : List ℕ) (ends : List RobotEnd) (e : RobotEnd) → robot ≡ k + i → i < length ends → rows_with robot (rows_from k run ends) ≡ record { run = run; robot = robot; ticks = get_or ends i e } ∷ []
one_row k robot i run [] e is inside = absurd (omega (arith, inside))
one_row k robot zero run (x ∷ es) e is inside =
    let same : k ≡ robot = omega (arith, is) in
    rw (eq-eqb k robot same, none_later robot (k + 1) run es (omega (arith, is))) (ap (λ (r : ℕ). let row : KeptRow = record { run = run; robot = r; ticks = x } in row ∷ []) same)
one_row k robot (suc i) run (x ∷ es) e is inside = rw (ne_eqb k robot (λ same. omega (arith, same, is))) (one_row (k + 1) robot i run es e (omega (arith, is)) (omega (arith, inside)))

-- a robot past the last of the run has none
pub no_row : (k robot i : ℕ) (run : List ℕ) (ends : List RobotEnd) → robot ≡ k + i → length ends ≤ i → rows_with robot (rows_from k run ends) ≡ []
no_row k robot i run [] is past = refl
no_row k robot zero run (x ∷ es) is past = absurd (omega (arith, past))
no_row k robot (suc i) run (x ∷ es) is past = rw (ne_eqb k robot (λ same. omega (arith, same, is))) (no_row (k + 1) robot i run es (omega (arith, is)) (omega (arith, past)))

-- the rows of one more run
more_runs : (robot : ℕ) (runs : List KeptRun) (i : ℕ) (kept : KeptRun) → i < length runs → kept ≡ get_or runs i kept → rows_with robot (table_of (take (i + 1) runs)) ≡ rows_with robot (table_of (take i runs)) ++ rows_with robot (rows_of kept.run kept.ends)
more_runs robot runs i kept inside is =
    let own : KeptRun → List KeptRow = λ k. rows_of k.run k.ends in
    ap (λ l. rows_with robot (table_of l)) (take_more runs i kept inside ∙ ap (λ (k : KeptRun). take i runs ++ k ∷ []) (sym is))
    ∙ ap (rows_with robot) (flat_map-append own (take i runs) (kept ∷ []) ∙ ap (λ l. table_of (take i runs) ++ l) (append-nil (own kept)))
    ∙ filter-append (λ (row : KeptRow). row.robot == robot) (table_of (take i runs)) (own kept)

pub with_row : (robot : ℕ) (runs : List KeptRun) (i : ℕ) (kept : KeptRun) (e : RobotEnd) (named : List NamedEnd) (end : NamedEnd) → i < length runs → kept ≡ get_or runs i kept → robot < length kept.ends → map (row_of robot) named ≡ rows_with robot (table_of (take i runs)) → row_of robot end ≡ record { run = kept.run; robot = robot; ticks = get_or kept.ends robot e } → map (row_of robot) (named ++ end ∷ []) ≡ rows_with robot (table_of (take (i + 1) runs))
with_row robot runs i kept e named end inside is there before end-is =
    map-append (row_of robot) named (end ∷ [])
    ∙ rw before (ap (λ (row : KeptRow). rows_with robot (table_of (take i runs)) ++ row ∷ []) end-is)
    ∙ sym (more_runs robot runs i kept inside is ∙ ap (λ l. rows_with robot (table_of (take i runs)) ++ l) (one_row 0 robot robot kept.run kept.ends e (omega arith) there))

pub without_row : (robot : ℕ) (runs : List KeptRun) (i : ℕ) (kept : KeptRun) (rows : List KeptRow) → i < length runs → kept ≡ get_or runs i kept → length kept.ends ≤ robot → rows ≡ rows_with robot (table_of (take i runs)) → rows ≡ rows_with robot (table_of (take (i + 1) runs))
without_row robot runs i kept rows inside is past before =
    before ∙ sym (more_runs robot runs i kept inside is ∙ rw (no_row 0 robot robot kept.run kept.ends (omega arith) past) (append-nil (rows_with robot (table_of (take i runs)))))

-- the rows of ends that ascend by name ascend by name
rows_ascend : (robot : ℕ) (named : List NamedEnd) → IsSortedByKey (λ end. end.run.now) (slice_cmp nat_cmp) named → IsSortedByKey (λ row. row.run) (slice_cmp nat_cmp) (map (row_of robot) named)
rows_ascend robot [] ascending k d from below = absurd (omega (arith, below))
rows_ascend robot (x ∷ xs) ascending k d from below =
    let within : k + 1 < length (x ∷ xs) = omega (arith, below, length-map (x ∷ xs) (row_of robot)) in
    rw (get_or-map (row_of robot) (x ∷ xs) (k + 1) x d within, get_or-map (row_of robot) (x ∷ xs) k x d (omega (arith, within))) (ascending k x from within)

ends_within : (named : List NamedEnd) → All (λ end. IsEnd end.ticks) named → All IsEnd (map (λ end. end.ticks) named)
ends_within [] within k d inside = absurd (omega (arith, inside))
ends_within (x ∷ xs) within k d inside =
    let there : k < length (x ∷ xs) = omega (arith, inside, length-map (x ∷ xs) (λ (end : NamedEnd). end.ticks)) in
    rw (get_or-map (λ (end : NamedEnd). end.ticks) (x ∷ xs) k x d there) (within k x there)

ends_are : (robot : ℕ) (named : List NamedEnd) → map (λ end. end.ticks) named ≡ map (λ row. row.ticks) (map (row_of robot) named)
ends_are robot [] = refl
ends_are robot (x ∷ xs) = ap (λ l. x.ticks ∷ l) (ends_are robot xs)

-- ends that were sorted by name are those of the rows, by name
pub by_name : (robot : ℕ) (rows : List KeptRow) (found named : List NamedEnd) (ends : List RobotEnd) → map (row_of robot) found ≡ rows → IsPermutation found named → IsSortedByKey (λ end. end.run.now) (slice_cmp nat_cmp) named → ends ≡ map (λ end. end.ticks) named → AreByName rows ends
by_name robot rows found named ends is all ascending gives = record {
  sorted = map (row_of robot) named;
  all = subst (λ l. IsPermutation l (map (row_of robot) named)) is (IsPermutation-map (row_of robot) found named all);
  ascending = rows_ascend robot named ascending;
  ends_are = gives ∙ ends_are robot named;
}

pub kept_ends : (found named : List NamedEnd) (ends : List RobotEnd) → length found ≤ run_limit → All (λ end. IsEnd end.ticks) found → IsPermutation found named → ends ≡ map (λ end. end.ticks) named → AreKept ends
kept_ends found named ends few within all gives =
    let same = length_permutation found named all in
    rw gives record {
      few = omega (arith, few, same, length-map named (λ (end : NamedEnd). end.ticks));
      within = ends_within named (All-permutation (λ (end : NamedEnd). IsEnd end.ticks) found named all within);
    }
