-- The label of a line, and the path behind it.
use Rattle.std.proofs.Common.{ℕ, suc, ◌+◌, ◌-◌, ◌<◌, ◌≤◌, ◌≡◌, List, [], ◌∷◌, ◌++◌, length, take, drop, get_or, sym, ◌∙◌, ap, subst, refl, inl, inr, arith}
use Rattle.std.specs.Prelude.{codes}
use Rattle.std.proofs.lemmas.Bool.{cases_lt}
use Rattle.std.proofs.lemmas.List.{append_assoc, append_cancel_left, take-append-drop, take_all, length-append, get_or-take, get_or_append_left, length-take-le}
use Rattle.fleet_base.specs.declared.geometry.Cell.{Cell}
use Rattle.plan_text.specs.declared.fault.PlanKind.TheVariants.{Label, Path}
use Rattle.plan_text.specs.PlanText.{label_of, IsPathText, IsPlanLine}
use Rattle.plan_text.specs.PlanFaults.{BeginsPathText, BeginsPlanLine, IsPathFault, IsLineFault}
use Rattle.plan_text.proofs.Steps.{cell_at}
use Rattle.plan_text.proofs.Paths.{one_path}

-- some text says a path
some_path : IsPathText (codes "(0,0)") (cell_at 0 0 ∷ [])
some_path = record { some = omega arith; narrow = ((omega arith, omega arith), tt); spelled = inl refl }

-- a front of the label begins a line
label_begins : (i n : ℕ) → BeginsPlanLine i (take n (label_of i))
label_begins i n =
    (label_of i ++ codes "(0,0)", cell_at 0 0 ∷ [], record { text = codes "(0,0)"; whole = refl; says = some_path }, (drop n (label_of i) ++ codes "(0,0)", sym (append_assoc (take n (label_of i)) (drop n (label_of i)) (codes "(0,0)")) ∙ ap (λ xs. xs ++ codes "(0,0)") (take-append-drop n (label_of i))))

-- the label and what begins a path begin a line
path_begins : (i : ℕ) (front : List ℕ) → BeginsPathText front → BeginsPlanLine i (label_of i ++ front)
path_begins i front w =
    (label_of i ++ w.0, w.1, record { text = w.0; whole = refl; says = w.2 }, (w.3.0, append_assoc (label_of i) front w.3.0 ∙ ap (λ xs. label_of i ++ xs) w.3.1))

-- and behind the label of a line's front a path begins
path_begun : (i : ℕ) (front : List ℕ) → BeginsPlanLine i (label_of i ++ front) → BeginsPathText front
path_begun i front w =
    let both : label_of i ++ (front ++ w.3.0) ≡ label_of i ++ w.2.text = sym (append_assoc (label_of i) front w.3.0) ∙ w.3.1 ∙ w.2.whole in
    (w.2.text, w.1, w.2.says, (w.3.0, append_cancel_left (label_of i) (front ++ w.3.0) w.2.text both))

-- a front of a line has the bytes of the label
label_begun : (i n : ℕ) (front : List ℕ) → BeginsPlanLine i front → n < length front → n < length (label_of i) → get_or front n 0 ≡ get_or (label_of i) n 0
label_begun i n front w in_front in_label =
    sym (get_or_append_left front w.3.0 0 n in_front) ∙ ap (λ xs. get_or xs n 0) (w.3.1 ∙ w.2.whole) ∙ get_or_append_left (label_of i) w.2.text 0 n in_label

-- a line that leaves its label
pub label_fault : (i : ℕ) (line : List ℕ) (n : ℕ) → n ≤ length line → n < length (label_of i) → take n line ≡ take n (label_of i) → (n < length line → get_or line n 0 ≡ get_or (label_of i) n 0 → ⊥) → IsLineFault i line (n + 1) Label
label_fault i line n within short same differs = record {
  bad = λ path is. bad path is;
  n = n;
  front = record {
    within = within;
    good = subst (BeginsPlanLine i) (sym same) (label_begins i n);
    longest = λ m fits begins. longest m fits begins;
  };
  place = refl;
  called = short;
} where
  bad : (path : List Cell) → IsPlanLine i line path → ⊥
  bad path is =
      let long : n < length line = omega (arith, ap length is.whole, length-append (label_of i) is.text) in
      differs long (ap (λ xs. get_or xs n 0) is.whole ∙ get_or_append_left (label_of i) is.text 0 n short)

  longest : (m : ℕ) → m ≤ length line → BeginsPlanLine i (take m line) → m ≤ n
  longest m fits begins = elim (cases_lt n m) [
    | inr low ↦ low
    | inl high ↦ absurd (differs (omega arith) (sym (get_or-take m line n 0 high) ∙ label_begun i n (take m line) begins (omega (arith, length-take-le m line fits)) short))
  ]

-- a line that leaves its path
pub path_fault : (i : ℕ) (line text : List ℕ) (n : ℕ) → line ≡ label_of i ++ text → IsPathFault text n → IsLineFault i line (length (label_of i) + n + 1) Path
path_fault i line text n whole fault = record {
  bad = λ path is. fault.bad path (subst (λ xs. IsPathText xs path) (append_cancel_left (label_of i) is.text text (sym is.whole ∙ whole)) is.says);
  n = length (label_of i) + n;
  front = record {
    within = omega (arith, ap length whole, length-append (label_of i) text, fault.front.within);
    good = subst (BeginsPlanLine i) (sym (front_of n)) (path_begins i (take n text) fault.front.good);
    longest = λ m fits begins. longest m fits begins;
  };
  place = refl;
  called = omega arith;
} where
  taken : (k : ℕ) (xs ys : List ℕ) → take (length xs + k) (xs ++ ys) ≡ xs ++ take k ys
  taken k [] ys = let e : 0 + k ≡ k = omega arith in ap (λ j. take j ys) e
  taken k (x ∷ xs) ys =
      let e : suc (length xs) + k ≡ suc (length xs + k) = omega arith in
      ap (λ j. take j (x ∷ (xs ++ ys))) e ∙ ap (λ zs. x ∷ zs) (taken k xs ys)

  front_of : (k : ℕ) → take (length (label_of i) + k) line ≡ label_of i ++ take k text
  front_of k = ap (take (length (label_of i) + k)) whole ∙ taken k (label_of i) text

  longest : (m : ℕ) → m ≤ length line → BeginsPlanLine i (take m line) → m ≤ length (label_of i) + n
  longest m fits begins = elim (cases_lt (length (label_of i)) m) [
    | inr low ↦ omega arith
    | inl high ↦ behind (m - length (label_of i)) (omega arith)
  ] where
    behind : (k : ℕ) → length (label_of i) + k ≡ m → m ≤ length (label_of i) + n
    behind k e =
        let begun : BeginsPathText (take k text) = path_begun i (take k text) (subst (BeginsPlanLine i) (ap (λ j. take j line) (sym e) ∙ front_of k) begins) in
        let most : k ≤ n = fault.front.longest k (omega (arith, ap length whole, length-append (label_of i) text)) begun in
        omega arith

-- a line says one path
pub one_line : (i : ℕ) (line : List ℕ) (path other : List Cell) → IsPlanLine i line path → IsPlanLine i line other → path ≡ other
one_line i line path other a b =
    one_path a.text path other a.says (subst (λ xs. IsPathText xs other) (append_cancel_left (label_of i) b.text a.text (sym b.whole ∙ a.whole)) b.says)

-- the same, where the label is spelled elsewhere
pub leaves_label : (i : ℕ) (line label : List ℕ) (n : ℕ) → label ≡ label_of i → n ≤ length line → n < length label → take n line ≡ take n label → (n < length line → n < length label → get_or line n 0 ≡ get_or label n 0 → ⊥) → IsLineFault i line (n + 1) Label
leaves_label i line label n is within short same differs =
    let spelled : n < length (label_of i) = omega (arith, ap length is) in
    label_fault i line n within spelled (same ∙ ap (take n) is) (λ long e. differs long short (e ∙ ap (λ xs. get_or xs n 0) (sym is)))

-- the line behind its label
pub behind_label : (i : ℕ) (line label : List ℕ) (n : ℕ) → label ≡ label_of i → n ≤ length line → n ≤ length label → length label ≤ n → take n line ≡ take n label → line ≡ label_of i ++ drop n line
behind_label i line label n is within short whole same =
    sym (take-append-drop n line) ∙ ap (λ xs. xs ++ drop n line) (same ∙ take_all n label whole ∙ is)

pub leaves_path : (i : ℕ) (line label : List ℕ) (n m : ℕ) → label ≡ label_of i → n ≤ length line → n ≤ length label → length label ≤ n → take n line ≡ take n label → IsPathFault (drop n line) m → IsLineFault i line (n + m + 1) Path
leaves_path i line label n m is within short whole same fault =
    let len : length (label_of i) + m + 1 ≡ n + m + 1 = omega (arith, ap length is) in
    subst (λ k. IsLineFault i line k Path) len (path_fault i line (drop n line) m (behind_label i line label n is within short whole same) fault)
