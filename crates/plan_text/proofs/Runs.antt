-- What a place says of the bytes before it, and the run of the places over a text.
use Rattle.std.proofs.Common.{ℕ, zero, suc, ◌+◌, ◌*◌, ◌/◌, ◌%◌, ◌<◌, ◌≤◌, ◌≡◌, Option, Some, None, true, List, [], ◌∷◌, ◌++◌, length, take, get_or, sym, ◌∙◌, ap, subst, refl, inl, inr, arith}
use Rattle.std.specs.Prelude.{option_and_then, codes}
use Rattle.std.specs.List.{AllByRecursion}
use Rattle.std.proofs.lemmas.List.{append_assoc, append-nil, take_more, length-take-le}
use Rattle.std.proofs.lemmas.Option.{some_pair_parts}
use Rattle.fleet_base.specs.declared.geometry.Cell.{Cell}
use Rattle.fleet_base.specs.Bytes.{numeral}
use Rattle.plan_text.specs.declared.place.Place.{Place}
use Rattle.plan_text.specs.declared.place.Place.TheVariants.{Start, Open, Row, Comma, Col, Closed, Dash, Arrow}
use Rattle.plan_text.specs.Places.{next_place, is_end}
use Rattle.plan_text.specs.PlanText.{cell_text, path_text, IsNarrow, IsPathText, IsWritable}
use Rattle.plan_text.proofs.Numerals.{numeral_digit, numeral_more, numeral_by_steps}
use Rattle.plan_text.proofs.Steps.{cell_at, Step, first_opens, next_opens, row_begins, row_goes_on, row_ends, col_begins, col_goes_on, col_ends, dash_comes, arrow_ends, step_of, step_is}

-- cells with the arrow behind each
abbrev pub opened : List Cell → List ℕ
opened [] = []
opened (c ∷ cs) = cell_text c ++ codes "->" ++ opened cs

-- one more cell is read at its end
abbrev pub with_cell : Place → List Cell → List Cell
with_cell (Closed c) cs = cs ++ c ∷ []
with_cell _ cs = cs

-- at any other place they stay
pub with_cell_other : (p : Place) (cs : List Cell) → ((c : Cell) → p ≡ Closed c → ⊥) → with_cell p cs ≡ cs
with_cell_other (Closed c) cs other = absurd (other c refl)
with_cell_other Start cs other = refl
with_cell_other Open cs other = refl
with_cell_other (Row r) cs other = refl
with_cell_other (Comma r) cs other = refl
with_cell_other (Col c) cs other = refl
with_cell_other Dash cs other = refl
with_cell_other Arrow cs other = refl

-- what a place says of the cells read whole and of all bytes so far
abbrev pub Stands : Place → List Cell → List ℕ → Type 0
Stands Start cs xs = (cs ≡ []) × (xs ≡ [])
Stands Open cs xs = AllByRecursion IsNarrow cs × (xs ≡ opened cs ++ 40 ∷ [])
Stands (Row r) cs xs = AllByRecursion IsNarrow cs × (r < 10000) × (xs ≡ opened cs ++ 40 ∷ numeral r)
Stands (Comma r) cs xs = AllByRecursion IsNarrow cs × (r < 10000) × (xs ≡ opened cs ++ 40 ∷ (numeral r ++ 44 ∷ []))
Stands (Col c) cs xs = AllByRecursion IsNarrow cs × IsNarrow c × (xs ≡ opened cs ++ 40 ∷ (numeral c.row ++ 44 ∷ numeral c.col))
Stands (Closed c) cs xs = IsWritable cs × (xs ≡ path_text cs)
Stands Dash cs xs = IsWritable cs × (xs ≡ path_text cs ++ 45 ∷ [])
Stands Arrow cs xs = IsWritable cs × (xs ≡ path_text cs ++ 45 ∷ 62 ∷ [])

-- one more cell behind an arrow
pub path_text-push : (cs : List Cell) (c : Cell) → path_text (cs ++ c ∷ []) ≡ opened cs ++ cell_text c
path_text-push [] c = refl
path_text-push (a ∷ []) c = ap (λ xs. xs ++ cell_text c) (sym (append-nil (cell_text a ++ codes "->")))
path_text-push (a ∷ b ∷ cs) c =
    ap (λ xs. (cell_text a ++ codes "->") ++ xs) (path_text-push (b ∷ cs) c) ∙ sym (append_assoc (cell_text a ++ codes "->") (opened (b ∷ cs)) (cell_text c))

-- cells with the arrow behind the last one too
pub opened-path : (cs : List Cell) → 1 ≤ length cs → opened cs ≡ path_text cs ++ 45 ∷ 62 ∷ []
opened-path [] some = absurd (omega arith)
opened-path (a ∷ []) some = append-nil (cell_text a ++ codes "->")
opened-path (a ∷ b ∷ cs) some =
    ap (λ xs. (cell_text a ++ codes "->") ++ xs) (opened-path (b ∷ cs) (omega arith)) ∙ sym (append_assoc (cell_text a ++ codes "->") (path_text (b ∷ cs)) (45 ∷ 62 ∷ []))

-- one more narrow cell
narrow_push : (cs : List Cell) (c : Cell) → AllByRecursion IsNarrow cs → IsNarrow c → AllByRecursion IsNarrow (cs ++ c ∷ [])
narrow_push [] c all one = (one, tt)
narrow_push (a ∷ cs) c all one = (all.0, narrow_push cs c all.1 one)

-- a list with one more is not empty
some_push : (cs : List Cell) (c : Cell) → 1 ≤ length (cs ++ c ∷ [])
some_push [] c = omega arith
some_push (a ∷ cs) c = omega arith

-- a path with one more cell
writable_push : (cs : List Cell) (c : Cell) → AllByRecursion IsNarrow cs → IsNarrow c → IsWritable (cs ++ c ∷ [])
writable_push cs c all one = record { some = some_push cs c; narrow = narrow_push cs c all one }

-- behind a step stands what the place says
stands_step : (p : Place) (cs : List Cell) (xs : List ℕ) (b : ℕ) (q : Place) → Step p b q → Stands p cs xs → Stands q (with_cell q cs) (xs ++ b ∷ [])
stands_step p cs xs b q first_opens s = rw (s.0, s.1) (tt, refl)
stands_step p cs xs b q next_opens s = (s.0.narrow, ap (λ ys. ys ++ 40 ∷ []) (s.1 ∙ sym (opened-path cs s.0.some)))
stands_step p cs xs b q (row_begins d small) s =
    (s.0, omega arith, ap (λ ys. ys ++ (48 + d) ∷ []) s.1 ∙ append_assoc (opened cs) (40 ∷ []) ((48 + d) ∷ []) ∙ ap (λ ds. opened cs ++ 40 ∷ ds) (sym (numeral_digit d small)))
stands_step p cs xs b q (row_goes_on r d some few small) s =
    (s.0, omega arith, ap (λ ys. ys ++ (48 + d) ∷ []) s.2 ∙ append_assoc (opened cs) (40 ∷ numeral r) ((48 + d) ∷ []) ∙ ap (λ ds. opened cs ++ 40 ∷ ds) (numeral_more r d some few small))
stands_step p cs xs b q (row_ends r) s =
    (s.0, s.1, ap (λ ys. ys ++ 44 ∷ []) s.2 ∙ append_assoc (opened cs) (40 ∷ numeral r) (44 ∷ []))
stands_step p cs xs b q (col_begins r d small) s =
    let narrow : d < 10000 = omega arith in
    (s.0, (s.1, narrow), ap (λ ys. ys ++ (48 + d) ∷ []) s.2 ∙ append_assoc (opened cs) (40 ∷ (numeral r ++ 44 ∷ [])) ((48 + d) ∷ []) ∙ ap (λ ds. opened cs ++ 40 ∷ ds) (append_assoc (numeral r) (44 ∷ []) ((48 + d) ∷ []) ∙ ap (λ ds. numeral r ++ 44 ∷ ds) (sym (numeral_digit d small))))
stands_step p cs xs b q (col_goes_on r c d some few small) s =
    let narrow : 10 * c + d < 10000 = omega arith in
    (s.0, (s.1.0, narrow), ap (λ ys. ys ++ (48 + d) ∷ []) s.2 ∙ append_assoc (opened cs) (40 ∷ (numeral r ++ 44 ∷ numeral c)) ((48 + d) ∷ []) ∙ ap (λ ds. opened cs ++ 40 ∷ ds) (append_assoc (numeral r) (44 ∷ numeral c) ((48 + d) ∷ []) ∙ ap (λ ds. numeral r ++ 44 ∷ ds) (numeral_more c d some few small)))
stands_step p cs xs b q (col_ends c) s =
    (writable_push cs c s.0 s.1, ap (λ ys. ys ++ 41 ∷ []) s.2 ∙ append_assoc (opened cs) (40 ∷ (numeral c.row ++ 44 ∷ numeral c.col)) (41 ∷ []) ∙ ap (λ ds. opened cs ++ 40 ∷ (ds ++ 41 ∷ [])) (sym (append_assoc (numeral c.row) (44 ∷ []) (numeral c.col))) ∙ sym (path_text-push cs c))
stands_step p cs xs b q (dash_comes c) s = (s.0, ap (λ ys. ys ++ 45 ∷ []) s.1)
stands_step p cs xs b q arrow_ends s = (s.0, ap (λ ys. ys ++ 62 ∷ []) s.1 ∙ append_assoc (path_text cs) (45 ∷ []) (62 ∷ []))

-- from a place with these cells over more bytes
abbrev pub run : Place → List Cell → List ℕ → Option (Place × List Cell)
run p cs [] = Some (p, cs)
run p cs (b ∷ bs) = option_and_then (λ q. run q (with_cell q cs) bs) (next_place p b)

-- over a list and then over another
pub run-append : (p : Place) (cs : List Cell) (xs ys : List ℕ) → run p cs (xs ++ ys) ≡ option_and_then (λ s. run s.0 s.1 ys) (run p cs xs)
run-append p cs [] ys = refl
run-append p cs (x ∷ xs) ys = go (next_place p x) (λ q. run-append q (with_cell q cs) xs ys) where
  go : (o : Option Place) → ((q : Place) → run q (with_cell q cs) (xs ++ ys) ≡ option_and_then (λ s. run s.0 s.1 ys) (run q (with_cell q cs) xs)) → option_and_then (λ q. run q (with_cell q cs) (xs ++ ys)) o ≡ option_and_then (λ s. run s.0 s.1 ys) (option_and_then (λ q. run q (with_cell q cs) xs) o)
  go None more = refl
  go (Some q) more = more q

-- at each place of a run stands what the place says
run_stands : (ys : List ℕ) (p : Place) (cs : List Cell) (xs : List ℕ) (q : Place) (ds : List Cell) → Stands p cs xs → run p cs ys ≡ Some (q, ds) → Stands q ds (xs ++ ys)
run_stands [] p cs xs q ds s e =
    let same = some_pair_parts p q cs ds e in
    subst (λ r. Stands r ds (xs ++ [])) same.0 (subst (λ es. Stands p es (xs ++ [])) same.1 (subst (λ zs. Stands p cs zs) (sym (append-nil xs)) s))
run_stands (y ∷ ys) p cs xs q ds s e = go (next_place p y) refl e (λ r. run_stands ys r (with_cell r cs) (xs ++ y ∷ []) q ds) where
  go : (o : Option Place) → next_place p y ≡ o → option_and_then (λ r. run r (with_cell r cs) ys) o ≡ Some (q, ds) → ((r : Place) → Stands r (with_cell r cs) (xs ++ y ∷ []) → run r (with_cell r cs) ys ≡ Some (q, ds) → Stands q ds ((xs ++ y ∷ []) ++ ys)) → Stands q ds (xs ++ y ∷ ys)
  go None t h more = absurd cc
  go (Some r) t h more = subst (λ zs. Stands q ds zs) (append_assoc xs (y ∷ []) ys) (more r (stands_step p cs xs y r (step_of p y r t) s) h)

-- so from the start
pub stands : (xs : List ℕ) (p : Place) (cs : List Cell) → run Start [] xs ≡ Some (p, cs) → Stands p cs xs
stands xs p cs e = run_stands xs Start [] [] p cs (refl, refl) e

-- a step of a run
run_step : (p : Place) (b : ℕ) (q : Place) (cs : List Cell) (ys : List ℕ) → Step p b q → run p cs (b ∷ ys) ≡ run q (with_cell q cs) ys
run_step p b q cs ys s = ap (λ o. option_and_then (λ r. run r (with_cell r cs) ys) o) (step_is p b q s)

-- over the numeral of a row
run_row : (cs : List Cell) (n : ℕ) → n < 10000 → (ys : List ℕ) → run Open cs (numeral n ++ ys) ≡ run (Row n) cs ys
run_row cs n small = numeral_by_steps (λ m ds. m < 10000 → (ys : List ℕ) → run Open cs (ds ++ ys) ≡ run (Row m) cs ys) one more n (omega arith) small where
  one : (m : ℕ) → m < 10 → m < 10000 → (ys : List ℕ) → run Open cs ((48 + m) ∷ ys) ≡ run (Row m) cs ys
  one m digit narrow ys = run_step Open (48 + m) (Row m) cs ys (row_begins m digit)

  more : (m : ℕ) (ds : List ℕ) → 10 ≤ m → (m / 10 < 10000 → (ys : List ℕ) → run Open cs (ds ++ ys) ≡ run (Row (m / 10)) cs ys) → m < 10000 → (ys : List ℕ) → run Open cs ((ds ++ (48 + m % 10) ∷ []) ++ ys) ≡ run (Row m) cs ys
  more m ds two front narrow ys =
      let whole : 10 * (m / 10) + m % 10 ≡ m = omega arith in
      ap (run Open cs) (append_assoc ds ((48 + m % 10) ∷ []) ys) ∙ front (omega arith) ((48 + m % 10) ∷ ys) ∙ run_step (Row (m / 10)) (48 + m % 10) (Row (10 * (m / 10) + m % 10)) cs ys (row_goes_on (m / 10) (m % 10) (omega arith) (omega arith) (omega arith)) ∙ ap (λ k. run (Row k) cs ys) whole

-- over the numeral of a column
run_col : (cs : List Cell) (r n : ℕ) → n < 10000 → (ys : List ℕ) → run (Comma r) cs (numeral n ++ ys) ≡ run (Col (cell_at r n)) cs ys
run_col cs r n small = numeral_by_steps (λ m ds. m < 10000 → (ys : List ℕ) → run (Comma r) cs (ds ++ ys) ≡ run (Col (cell_at r m)) cs ys) one more n (omega arith) small where
  one : (m : ℕ) → m < 10 → m < 10000 → (ys : List ℕ) → run (Comma r) cs ((48 + m) ∷ ys) ≡ run (Col (cell_at r m)) cs ys
  one m digit narrow ys = run_step (Comma r) (48 + m) (Col (cell_at r m)) cs ys (col_begins r m digit)

  more : (m : ℕ) (ds : List ℕ) → 10 ≤ m → (m / 10 < 10000 → (ys : List ℕ) → run (Comma r) cs (ds ++ ys) ≡ run (Col (cell_at r (m / 10))) cs ys) → m < 10000 → (ys : List ℕ) → run (Comma r) cs ((ds ++ (48 + m % 10) ∷ []) ++ ys) ≡ run (Col (cell_at r m)) cs ys
  more m ds two front narrow ys =
      let whole : 10 * (m / 10) + m % 10 ≡ m = omega arith in
      ap (run (Comma r) cs) (append_assoc ds ((48 + m % 10) ∷ []) ys) ∙ front (omega arith) ((48 + m % 10) ∷ ys) ∙ run_step (Col (cell_at r (m / 10))) (48 + m % 10) (Col (cell_at r (10 * (m / 10) + m % 10))) cs ys (col_goes_on r (m / 10) (m % 10) (omega arith) (omega arith) (omega arith)) ∙ ap (λ k. run (Col (cell_at r k)) cs ys) whole

-- a cell in its pieces
cell_parts : (c : Cell) (ys : List ℕ) → cell_text c ++ ys ≡ 40 ∷ (numeral c.row ++ 44 ∷ (numeral c.col ++ 41 ∷ ys))
cell_parts c ys =
    ap (λ zs. 40 ∷ zs) (append_assoc ((numeral c.row ++ 44 ∷ []) ++ numeral c.col) (41 ∷ []) ys ∙ append_assoc (numeral c.row ++ 44 ∷ []) (numeral c.col) (41 ∷ ys) ∙ append_assoc (numeral c.row) (44 ∷ []) (numeral c.col ++ 41 ∷ ys))

-- over a cell
run_cell : (p : Place) (cs : List Cell) (c : Cell) (ys : List ℕ) → Step p 40 Open → IsNarrow c → run p cs (cell_text c ++ ys) ≡ run (Closed c) (cs ++ c ∷ []) ys
run_cell p cs c ys opens narrow =
    ap (run p cs) (cell_parts c ys) ∙ run_step p 40 Open cs (numeral c.row ++ 44 ∷ (numeral c.col ++ 41 ∷ ys)) opens ∙ run_row cs c.row narrow.0 (44 ∷ (numeral c.col ++ 41 ∷ ys)) ∙ run_step (Row c.row) 44 (Comma c.row) cs (numeral c.col ++ 41 ∷ ys) (row_ends c.row) ∙ run_col cs c.row c.col narrow.1 (41 ∷ ys) ∙ run_step (Col c) 41 (Closed c) cs ys (col_ends c)

-- over the cells of a path
run_path : (path : List Cell) (p : Place) (cs : List Cell) (ys : List ℕ) → Step p 40 Open → 1 ≤ length path → AllByRecursion IsNarrow path → (d : Cell) × (run p cs (path_text path ++ ys) ≡ run (Closed d) (cs ++ path) ys)
run_path [] p cs ys opens some narrow = absurd (omega arith)
run_path (c ∷ []) p cs ys opens some narrow = (c, run_cell p cs c ys opens narrow.0)
run_path (c ∷ d ∷ path) p cs ys opens some narrow =
    let rest = run_path (d ∷ path) Arrow (cs ++ c ∷ []) ys next_opens (omega arith) narrow.1 in
    let text : path_text (c ∷ d ∷ path) ++ ys ≡ cell_text c ++ 45 ∷ 62 ∷ (path_text (d ∷ path) ++ ys) =
    append_assoc (cell_text c ++ 45 ∷ 62 ∷ []) (path_text (d ∷ path)) ys ∙ append_assoc (cell_text c) (45 ∷ 62 ∷ []) (path_text (d ∷ path) ++ ys) in
    (rest.0, ap (run p cs) text ∙ run_cell p cs c (45 ∷ 62 ∷ (path_text (d ∷ path) ++ ys)) opens narrow.0 ∙ rest.1 ∙ ap (λ es. run (Closed rest.0) es ys) (append_assoc cs (c ∷ []) (d ∷ path)))

-- the text of a path leads to its end, with its cells
pub whole_run : (text : List ℕ) (path : List Cell) → IsPathText text path → (q : Place) × (run Start [] text ≡ Some (q, path)) × (is_end q ≡ true)
whole_run text path is = elim is.spelled [
  | inl e ↦ let last = run_path path Start [] [] first_opens is.some is.narrow in (Closed last.0, ap (run Start []) (e ∙ sym (append-nil (path_text path))) ∙ last.1, refl)
  | inr e ↦ let last = run_path path Start [] (45 ∷ 62 ∷ []) first_opens is.some is.narrow in (Arrow, ap (run Start []) e ∙ last.1, refl)
]

-- a path that ends with this cell
ends_with : (cs : List Cell) (c : Cell) → AllByRecursion IsNarrow cs → IsNarrow c → IsPathText (opened cs ++ cell_text c) (cs ++ c ∷ [])
ends_with cs c all one = record { some = some_push cs c; narrow = narrow_push cs c all one; spelled = inl (sym (path_text-push cs c)) }

-- a cell as one list
cell_spelled : (c : Cell) → 40 ∷ (numeral c.row ++ 44 ∷ (numeral c.col ++ 41 ∷ [])) ≡ cell_text c
cell_spelled c = sym (cell_parts c []) ∙ append-nil (cell_text c)

-- a text with this path in front
text_of : (xs rest : List ℕ) (cs : List Cell) (c : Cell) → AllByRecursion IsNarrow cs → IsNarrow c → xs ++ rest ≡ opened cs ++ cell_text c → (rest' : List ℕ) × (path : List Cell) × IsPathText (xs ++ rest') path
text_of xs rest cs c all one e = (rest, cs ++ c ∷ [], subst (λ zs. IsPathText zs (cs ++ c ∷ [])) (sym e) (ends_with cs c all one))

-- from each place some path's text can be completed
pub completes : (p : Place) (cs : List Cell) (xs : List ℕ) → Stands p cs xs → (rest : List ℕ) × (path : List Cell) × IsPathText (xs ++ rest) path
completes Start cs xs s = text_of xs (codes "(0,0)") [] (cell_at 0 0) tt (omega arith, omega arith) (ap (λ ys. ys ++ codes "(0,0)") s.1)
completes Open cs xs s =
    text_of xs (codes "0,0)") cs (cell_at 0 0) s.0 (omega arith, omega arith) (ap (λ ys. ys ++ codes "0,0)") s.1 ∙ append_assoc (opened cs) (40 ∷ []) (codes "0,0)"))
completes (Row r) cs xs s =
    text_of xs (codes ",0)") cs (cell_at r 0) s.0 (s.1, omega arith) (ap (λ ys. ys ++ codes ",0)") s.2 ∙ append_assoc (opened cs) (40 ∷ numeral r) (codes ",0)") ∙ ap (λ zs. opened cs ++ zs) (cell_spelled (cell_at r 0)))
completes (Comma r) cs xs s =
    text_of xs (codes "0)") cs (cell_at r 0) s.0 (s.1, omega arith) (ap (λ ys. ys ++ codes "0)") s.2 ∙ append_assoc (opened cs) (40 ∷ (numeral r ++ 44 ∷ [])) (codes "0)") ∙ ap (λ zs. opened cs ++ 40 ∷ zs) (append_assoc (numeral r) (44 ∷ []) (codes "0)")) ∙ ap (λ zs. opened cs ++ zs) (cell_spelled (cell_at r 0)))
completes (Col c) cs xs s =
    text_of xs (codes ")") cs c s.0 s.1 (ap (λ ys. ys ++ codes ")") s.2 ∙ append_assoc (opened cs) (40 ∷ (numeral c.row ++ 44 ∷ numeral c.col)) (codes ")") ∙ ap (λ zs. opened cs ++ 40 ∷ zs) (append_assoc (numeral c.row) (44 ∷ numeral c.col) (codes ")")) ∙ ap (λ zs. opened cs ++ zs) (cell_spelled c))
completes (Closed c) cs xs s = ([], cs, record { some = s.0.some; narrow = s.0.narrow; spelled = inl (append-nil xs ∙ s.1) })
completes Dash cs xs s =
    (62 ∷ [], cs, record { some = s.0.some; narrow = s.0.narrow; spelled = inr (ap (λ ys. ys ++ 62 ∷ []) s.1 ∙ append_assoc (path_text cs) (45 ∷ []) (62 ∷ [])) })
completes Arrow cs xs s = ([], cs, record { some = s.0.some; narrow = s.0.narrow; spelled = inr (append-nil xs ∙ s.1) })

-- the text of a path up to one more cell
pub path_text_more : (path : List Cell) (n : ℕ) (d : Cell) → n < length path → path_text (take (n + 1) path) ≡ opened (take n path) ++ cell_text (get_or path n d)
path_text_more path n d within = ap path_text (take_more path n d within) ∙ path_text-push (take n path) (get_or path n d)

-- behind cells an arrow comes first
pub opened_behind : (path : List Cell) (n : ℕ) → 0 < n → n < length path → path_text (take n path) ++ 45 ∷ 62 ∷ [] ≡ opened (take n path)
opened_behind path n some within = sym (opened-path (take n path) (omega (arith, length-take-le n path (omega arith))))

-- before the first cell nothing does
pub opened_first : (path : List Cell) (n : ℕ) → n ≤ 0 → path_text (take n path) ≡ opened (take n path)
opened_first path zero none = refl
opened_first path (suc n) none = absurd (omega arith)
