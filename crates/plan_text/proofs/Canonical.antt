-- The canonical text of a plan means that plan.
use Rattle.std.proofs.Common.{ℕ, ◌+◌, ◌≤◌, ◌≡◌, Bool, true, false, not, ◌&&◌, cond, eqb, List, [], ◌∷◌, ◌++◌, map, length, sym, ◌∙◌, ap, subst, refl, inl, arith}
use Rattle.std.specs.Prelude.{codes}
use Rattle.std.specs.List.{AllByRecursion}
use Rattle.std.specs.Int.Digits.{digits_of}
use Rattle.std.proofs.lemmas.Bool.{and_parts, not-true, eqb-false}
use Rattle.std.proofs.lemmas.List.{append_assoc}
use Rattle.fleet_base.specs.declared.geometry.Cell.{Cell}
use Rattle.fleet_base.specs.Bytes.{numeral, without_cr, file_lines}
use Rattle.plan_text.specs.PlanText.{cell_text, path_text, label_of, IsWritable, AreRobotLines, without_empty_lines, robot_lines, plan_text_from, plan_text_of, IsPlanText}
use Rattle.fleet_base.proofs.Pieces.{HasNoLf, without_cr-other}
use Rattle.plan_text.proofs.LineLaws.{lines_first}

-- no LF in two texts, one behind the other
none-append : (xs ys : List ℕ) → HasNoLf xs → HasNoLf ys → HasNoLf (xs ++ ys)
none-append [] ys a b = b
none-append (x ∷ xs) ys a b = (a.0, none-append xs ys a.1 b)

-- digits are no LF
none-digits : (ds : List ℕ) → HasNoLf (map (λ d. 48 + d) ds)
none-digits [] = tt
none-digits (d ∷ ds) = ((λ e. absurd (omega arith)), none-digits ds)

-- nor is a numeral
none-numeral : (n : ℕ) → HasNoLf (numeral n)
none-numeral n = go (eqb n 0) where
  go : (t : Bool) → HasNoLf (cond t (48 ∷ []) (map (λ d. 48 + d) (digits_of 10 n)))
  go true = ((λ e. absurd (omega arith)), tt)
  go false = none-digits (digits_of 10 n)

-- a test of written bytes
abbrev lf_free : List ℕ → Bool
lf_free [] = true
lf_free (c ∷ cs) = not (eqb c 10) && lf_free cs

-- what the test says
none-tested : (xs : List ℕ) → lf_free xs ≡ true → HasNoLf xs
none-tested [] e = tt
none-tested (c ∷ cs) e =
    let parts = and_parts (not (eqb c 10)) (lf_free cs) e in
    (eqb-false c 10 (not-true (eqb c 10) parts.0), none-tested cs parts.1)

-- a label
none-label : (i : ℕ) → HasNoLf (label_of i)
none-label i =
    none-append (codes "Agent " ++ numeral i) (codes ": ") (none-append (codes "Agent ") (numeral i) (none-tested (codes "Agent ") refl) (none-numeral i)) (none-tested (codes ": ") refl)

-- a cell
none-cell : (c : Cell) → HasNoLf (cell_text c)
none-cell c =
    none-append (codes "(" ++ numeral c.row ++ codes "," ++ numeral c.col) (codes ")") (none-append (codes "(" ++ numeral c.row ++ codes ",") (numeral c.col) (none-append (codes "(" ++ numeral c.row) (codes ",") (none-append (codes "(") (numeral c.row) (none-tested (codes "(") refl) (none-numeral c.row)) (none-tested (codes ",") refl)) (none-numeral c.col)) (none-tested (codes ")") refl)

-- a path
none-path : (path : List Cell) → HasNoLf (path_text path)
none-path [] = tt
none-path (c ∷ []) = none-cell c
none-path (c ∷ d ∷ path) =
    none-append (cell_text c ++ codes "->") (path_text (d ∷ path)) (none-append (cell_text c) (codes "->") (none-cell c) (none-tested (codes "->") refl)) (none-path (d ∷ path))

-- a path ends with a bracket
path_end : (path : List Cell) → 1 ≤ length path → (front : List ℕ) × (path_text path ≡ front ++ 41 ∷ [])
path_end [] some = absurd (omega arith)
path_end (c ∷ []) some = (codes "(" ++ numeral c.row ++ codes "," ++ numeral c.col, refl)
path_end (c ∷ d ∷ path) some =
    let end = path_end (d ∷ path) (omega arith) in
    (cell_text c ++ codes "->" ++ end.0, ap (λ xs. (cell_text c ++ codes "->") ++ xs) end.1 ∙ sym (append_assoc (cell_text c ++ codes "->") end.0 (41 ∷ [])))

-- the first line of the canonical text
line_first : (i : ℕ) (path : List Cell) (rest : List ℕ) → 1 ≤ length path → robot_lines ((label_of i ++ path_text path ++ (10 ∷ [])) ++ rest) ≡ (label_of i ++ path_text path) ∷ robot_lines rest
line_first i path rest some =
    let line = label_of i ++ path_text path in
    let end = path_end path some in
    let whole : label_of i ++ path_text path ≡ (label_of i ++ end.0) ++ 41 ∷ [] = ap (λ xs. label_of i ++ xs) end.1 ∙ sym (append_assoc (label_of i) end.0 (41 ∷ [])) in
    let kept : without_cr (label_of i ++ path_text path) ≡ label_of i ++ path_text path = ap without_cr whole ∙ without_cr-other (label_of i ++ end.0) 41 (λ e. absurd (omega arith)) ∙ sym whole in
    ap robot_lines (append_assoc (label_of i ++ path_text path) (10 ∷ []) rest) ∙ ap without_empty_lines (lines_first (label_of i ++ path_text path) rest (none-append (label_of i) (path_text path) (none-label i) (none-path path)) ∙ ap (λ xs. xs ∷ file_lines rest) kept)

-- the canonical text has a line for each robot
canonical_lines : (i : ℕ) (plan : List (List Cell)) → AllByRecursion IsWritable plan → AreRobotLines i (robot_lines (plan_text_from i plan)) plan
canonical_lines i [] all = tt
canonical_lines i (path ∷ plan) all =
    subst (λ ls. AreRobotLines i ls (path ∷ plan)) (sym (line_first i path (plan_text_from (i + 1) plan) all.0.some)) (record { text = path_text path; whole = refl; says = record { some = all.0.some; narrow = all.0.narrow; spelled = inl refl } }, canonical_lines (i + 1) plan all.1)

-- the canonical text of a plan means that plan
pub canonical_means : (plan : List (List Cell)) → 1 ≤ length plan → AllByRecursion IsWritable plan → IsPlanText (plan_text_of plan) plan
canonical_means plan some all = record { some = some; lines = canonical_lines 0 plan all }
