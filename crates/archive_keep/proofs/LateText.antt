-- The text of the report, piece by piece.
use Rattle.std.proofs.Common.{ℕ, ◌≡◌, ◌+◌, ◌<◌, ◌≤◌, List, [], ◌∷◌, ◌++◌, map, flat_map, length, get_or, take, drop, sym, ap, subst, ◌∙◌, refl, append_assoc, append-nil, arith}
use Rattle.std.specs.List.Sorted.{IsPermutation}
use Rattle.std.specs.Prelude.{sum_by, codes}
use Rattle.std.proofs.lemmas.List.{take_more, take_all}
use Rattle.std.proofs.lemmas.List.Concat.{flat_map-append}
use Rattle.std.proofs.lemmas.List.FromFn.{length-range_with_len, get_or-range_with_len}
use Rattle.std.proofs.lemmas.List.Sorted.{sum_by-IsPermutation, length_permutation, IsPermutation-map}
use Rattle.fleet_base.specs.Bytes.{field, fields, AppendsFront, IsPrefix}
use Rattle.fleet_base.proofs.Appending.{front_first, front_behind, stays_behind, front_between, both, pieces_left}
use Rattle.archive_keep.specs.declared.ends.RobotEnd.{RobotEnd}
use Rattle.archive_keep.specs.Rows.{KeptRow, rows_with}
use Rattle.archive_keep.specs.Storing.{AreByName}
use Rattle.archive_keep.specs.Report.{late_of, line_of, sums_of, robot_text, part_of, all_robots, robots_text, runs_text, lateness_of}

-- what is left of a line when memory runs out in its words, and in its numbers
pub words_left : (old new words numbers : List ℕ) → AppendsFront old new words → AppendsFront old new (line_of words numbers)
words_left old new words numbers left =
    front_between old old new [] words (fields numbers ++ 10 ∷ []) (line_of words numbers) (sym (append-nil old)) (sym (append_assoc words (fields numbers) (10 ∷ []))) left

pub numbers_left : (old mid new words numbers : List ℕ) → mid ≡ old ++ words → AppendsFront mid new (fields numbers) → AppendsFront old new (line_of words numbers)
numbers_left old mid new words numbers is left = front_between old mid new words (fields numbers) (10 ∷ []) (line_of words numbers) is (sym (append_assoc words (fields numbers) (10 ∷ []))) left

-- an append leaves what was there
pub longer : (old new part : List ℕ) → new ≡ old ++ part → IsPrefix old new
longer old new part is = (part, sym is)

pub front_longer : (old new part : List ℕ) → AppendsFront old new part → IsPrefix old new
front_longer old new part (front, within, is) = (front, sym is)

pub longer_still : (a b c : List ℕ) → IsPrefix a b → IsPrefix b c → IsPrefix a c
longer_still a b c (x, e) (y, f) = (x ++ y, sym (append_assoc a x y) ∙ ap (λ l. l ++ y) e ∙ f)

-- the text of a robot does not turn on the order of its rows
pub any_order : (robot : ℕ) (xs ys : List RobotEnd) → IsPermutation xs ys → robot_text robot ys ≡ robot_text robot xs
any_order robot [] [] all = refl
any_order robot [] (y ∷ ys) all = absurd (omega (arith, length_permutation [] (y ∷ ys) all))
any_order robot (x ∷ xs) [] all = absurd (omega (arith, length_permutation (x ∷ xs) [] all))
any_order robot (x ∷ xs) (y ∷ ys) all =
    let us = x ∷ xs in
    let vs = y ∷ ys in
    rw (length_permutation us vs all, sum_by-IsPermutation (λ (ticks : RobotEnd). ticks.planned) us vs all, sum_by-IsPermutation (λ (ticks : RobotEnd). ticks.actual) us vs all, sum_by-IsPermutation late_of us vs all) refl

pub part_is : (rows : List KeptRow) (robot : ℕ) (ends : List RobotEnd) → AreByName (rows_with robot rows) ends → robot_text robot ends ≡ part_of rows robot
part_is rows robot ends by-name =
    let ticks : KeptRow → RobotEnd = λ row. row.ticks in
    ap (robot_text robot) by-name.ends_are ∙ any_order robot (map ticks (rows_with robot rows)) (map ticks by-name.sorted) (IsPermutation-map ticks (rows_with robot rows) by-name.sorted by-name.all)

-- a robot below the limit stands at its own place
robot_at : (robot : ℕ) → robot < 256 → get_or all_robots robot robot ≡ robot
unfolding all_robots
robot_at robot below = get_or-range_with_len 0 256 robot robot below ∙ omega arith

how_many : length all_robots ≡ 256
unfolding all_robots
how_many = length-range_with_len 0 256

inside_robots : (robot : ℕ) → robot < 256 → robot < length all_robots
inside_robots robot below = omega (arith, below, how_many)

-- the part of one more robot
pub more_robots : (rows : List KeptRow) (robot : ℕ) (old mid new : List ℕ) → robot < 256 → mid ≡ old ++ flat_map (part_of rows) (take robot all_robots) → new ≡ mid ++ part_of rows robot → new ≡ old ++ flat_map (part_of rows) (take (robot + 1) all_robots)
more_robots rows robot old mid new below is more =
    let parts : flat_map (part_of rows) (take (robot + 1) all_robots) ≡ flat_map (part_of rows) (take robot all_robots) ++ part_of rows robot =
    ap (flat_map (part_of rows)) (take_more all_robots robot robot (inside_robots robot below) ∙ ap (λ r. take robot all_robots ++ r ∷ []) (robot_at robot below))
    ∙ flat_map-append (part_of rows) (take robot all_robots) (robot ∷ [])
    ∙ ap (λ l. flat_map (part_of rows) (take robot all_robots) ++ l) (append-nil (part_of rows robot)) in
    both old mid new (flat_map (part_of rows) (take robot all_robots)) (part_of rows robot) is more ∙ ap (λ l. old ++ l) (sym parts)

-- what is left of all of them where a part is not whole
pub robots_left : (rows : List KeptRow) (robot : ℕ) (old mid new : List ℕ) → robot < 256 → mid ≡ old ++ flat_map (part_of rows) (take robot all_robots) → AppendsFront mid new (part_of rows robot) → AppendsFront old new (robots_text rows)
robots_left rows robot old mid new below is left =
    pieces_left (part_of rows) old mid new all_robots robot robot (inside_robots robot below) is (subst (λ r. AppendsFront mid new (part_of rows r)) (sym (robot_at robot below)) left)

-- all of them
pub whole_robots : (rows : List KeptRow) (robot : ℕ) (old new : List ℕ) → 256 ≤ robot → new ≡ old ++ flat_map (part_of rows) (take robot all_robots) → new ≡ old ++ robots_text rows
whole_robots rows robot old new past is = is ∙ ap (λ l. old ++ flat_map (part_of rows) l) (take_all robot all_robots (omega (arith, past, how_many)))

-- what is left of the report where the lines of the robots are not whole, and where the last line is not
pub report_left : (rows : List KeptRow) (old new : List ℕ) → AppendsFront old new (robots_text rows) → AppendsFront old new (lateness_of rows)
report_left rows old new left = front_first old new (robots_text rows) (runs_text rows) left

pub last_left : (rows : List KeptRow) (old mid new : List ℕ) → mid ≡ old ++ robots_text rows → AppendsFront mid new (runs_text rows) → AppendsFront old new (lateness_of rows)
last_left rows old mid new is left = front_behind old mid new (robots_text rows) (runs_text rows) is left

pub no_last : (rows : List KeptRow) (old mid : List ℕ) → mid ≡ old ++ robots_text rows → AppendsFront old mid (lateness_of rows)
no_last rows old mid is = stays_behind old mid mid (robots_text rows) (runs_text rows) (lateness_of rows) is refl refl

pub whole_report : (rows : List KeptRow) (old mid new : List ℕ) → mid ≡ old ++ robots_text rows → new ≡ mid ++ runs_text rows → new ≡ old ++ lateness_of rows
whole_report rows old mid new is last = both old mid new (robots_text rows) (runs_text rows) is last
