-- A text means one map at most, or has one first fault.
use Rattle.std.proofs.Common.{ℕ, ◌≡◌, ◌≢◌, ◌<◌, ◌≤◌, Bool, List, [], length, take, drop, Option, Some, None, Result, Ok, Err, refl, sym, ap, ◌∙◌, subst, inl, inr, ⊎_elim, arith}
use Rattle.std.specs.Prelude.{codes, slice_get, IsSomeAnd, IfSome, IfOk, IsTrue}
use Rattle.std.proofs.lemmas.Bool.{cases_order}
use Rattle.std.proofs.lemmas.List.{append_cancel_left}
use Rattle.std.proofs.lemmas.Option.{same_Some}
use Rattle.fleet_base.specs.Grid.{OccupancyGrid}
use Rattle.fleet_base.specs.Bytes.{file_lines, numeral}
use Rattle.fleet_base.specs.declared.grid.Grid.{Grid}
use Rattle.map_text.specs.declared.fault.MapError.{MapError}
use Rattle.map_text.specs.declared.fault.MapError.TheVariants as map_error
use Rattle.map_text.specs.declared.fault.MapKind.{MapKind}
use Rattle.map_text.specs.declared.fault.MapKind.TheVariants.{Octile, Height, Width, Size, Map, Short, Row, Char, More}
use Rattle.map_text.specs.MapText.{IsSize, IsRow, is_row, IsRight, IsMapText, cells_of, height_line, width_line}
use Rattle.map_text.specs.MapFaults.{IsWrong, IsMapFault, FaultIsFirst, Gives}
use Rattle.map_text.proofs.Digits.{same_number}

-- a line of the height names one number
same_height_line : (m n : ℕ) (line : Option (List ℕ)) → line ≡ Some (height_line m) → line ≡ Some (height_line n) → m ≡ n
same_height_line m n line e f = same_number m n (append_cancel_left (codes "height ") (numeral m) (numeral n) (same_Some _ _ (sym e ∙ f)))

same_width_line : (m n : ℕ) (line : Option (List ℕ)) → line ≡ Some (width_line m) → line ≡ Some (width_line n) → m ≡ n
same_width_line m n line e f = same_number m n (append_cancel_left (codes "width ") (numeral m) (numeral n) (same_Some _ _ (sym e ∙ f)))

-- the second line gives the height, and the third one the width
same_height : (h w h' w' : ℕ) (line : Option (List ℕ)) → IsRight h w 1 line → IsRight h' w' 1 line → h ≡ h'
same_height h w h' w' line a b = same_height_line h h' line (a.height refl).0 (b.height refl).0

same_width : (h w h' w' : ℕ) (line : Option (List ℕ)) → IsRight h w 2 line → IsRight h' w' 2 line → w ≡ w'
same_width h w h' w' line a b = same_width_line w w' line (a.width refl).0 (b.width refl).0

-- what stands at a line has not both of two facts that exclude each other
not_both : (line : Option (List ℕ)) (P Q : List ℕ → Type 0) → ((text : List ℕ) → P text → Q text → ⊥) → IsSomeAnd line P → IsSomeAnd line Q → ⊥
not_both None P Q apart a b = absurd a
not_both (Some text) P Q apart a b = apart text a b

not_blank : (line : Option (List ℕ)) → IfSome line (λ text. text ≡ []) → IsSomeAnd line (λ text. text ≢ []) → ⊥
not_blank None a b = absurd b
not_blank (Some text) a b = b a

-- a line is not both right and wrong
right_or_wrong : (h w h' w' k : ℕ) (line : Option (List ℕ)) (kind : MapKind) → IsRight h w k line → IsWrong h' w' k line kind → (2 ≤ k → h ≡ h') → (3 ≤ k → w ≡ w') → ⊥
right_or_wrong h w h' w' k line Octile a b eh ew = b.1 (a.heading b.0)
right_or_wrong h w h' w' k line Height a b eh ew = b.1 h (a.height b.0).0
right_or_wrong h w h' w' k line Width a b eh ew = b.1 w (a.width b.0).0
right_or_wrong h w h' w' k line Size a (n, inl (place, is), not) eh ew = not (subst IsSize (same_height_line h n line (a.height place).0 is) (a.height place).1)
right_or_wrong h w h' w' k line Size a (n, inr (place, is), not) eh ew = not (subst IsSize (same_width_line w n line (a.width place).0 is) (a.width place).1)
right_or_wrong h w h' w' k line Map a b eh ew = b.1 (a.start b.0)
right_or_wrong h w h' w' k line Short a b eh ew =
    subst (λ there. IsSomeAnd there (IsRow w)) b.1 (a.row (b.0.0, omega (arith, eh (omega arith))))
right_or_wrong h w h' w' k line Row a b eh ew =
    not_both line (IsRow w) (λ row. length row ≢ w') (λ text is not. not (is.width ∙ ew (omega arith))) (a.row (b.0.0, omega (arith, eh (omega arith)))) b.1
right_or_wrong h w h' w' k line Char a b eh ew =
    not_both line (IsRow w) (λ row. (length row ≡ w') × (¬ IsTrue (is_row row))) (λ text is not. not.1 is.chars) (a.row (b.0.0, omega (arith, eh (omega arith)))) b.1
right_or_wrong h w h' w' k line More a b eh ew = not_blank line (a.after (omega (arith, eh (omega arith)))) b.1

-- a map has no fault
pub no_fault : (text : List ℕ) (g : OccupancyGrid) (at : ℕ) (kind : MapKind) → IsMapText text g → IsMapFault (file_lines text) at kind → ⊥
no_fault text g at kind is fault =
    right_or_wrong g.height g.width fault.height fault.width fault.place _ kind (is.lines fault.place) fault.here
    (λ low. same_height _ _ _ _ _ (is.lines 1) (fault.above 1 (omega arith)))
    (λ low. same_width _ _ _ _ _ (is.lines 2) (fault.above 2 (omega arith)))

-- a text means one map
pub one_map : (text : List ℕ) (g g' : OccupancyGrid) → IsMapText text g → IsMapText text g' → g ≡ g'
one_map text g g' a b =
    let high : g.height ≡ g'.height = same_height _ _ _ _ _ (a.lines 1) (b.lines 1) in
    let wide : g.width ≡ g'.width = same_width _ _ _ _ _ (a.lines 2) (b.lines 2) in
    let free : g.free ≡ g'.free = a.cells ∙ ap (λ n. cells_of (take n (drop 4 (file_lines text)))) high ∙ sym b.cells in
    same_grid g g' high wide free
  where
    same_grid : (x y : OccupancyGrid) → x.height ≡ y.height → x.width ≡ y.width → x.free ≡ y.free → x ≡ y
    same_grid x y e f h =
        let grid : ℕ → ℕ → List Bool → OccupancyGrid = λ height width free. record { height = height; width = width; free = free } in
        ap (λ n. grid n x.width x.free) e ∙ ap (λ n. grid y.height n x.free) f ∙ ap (λ free. grid y.height y.width free) h

-- a reading that gives a map or the first fault gives the map that the text means
pub given : (text : List ℕ) (q : Result Grid MapError) → IfOk q (IsMapText text) → FaultIsFirst (file_lines text) q → (g : OccupancyGrid) → IsMapText text g → Gives g q
given text (Ok x) is fault g means = one_map text x g is means
given text (Err (map_error.Fault f)) is fault g means = no_fault text g f.line f.kind means fault
given text (Err map_error.Memory) is fault g means = tt

-- two faults of one line are the same
same_kind : (h w h' w' k : ℕ) (line : Option (List ℕ)) (a b : MapKind) → IsWrong h w k line a → IsWrong h' w' k line b → (2 ≤ k → h ≡ h') → (3 ≤ k → w ≡ w') → a ≡ b
same_kind h w h' w' k line Octile Octile p q eh ew = refl
same_kind h w h' w' k line Height Height p q eh ew = refl
same_kind h w h' w' k line Width Width p q eh ew = refl
same_kind h w h' w' k line Size Size p q eh ew = refl
same_kind h w h' w' k line Map Map p q eh ew = refl
same_kind h w h' w' k line Short Short p q eh ew = refl
same_kind h w h' w' k line Row Row p q eh ew = refl
same_kind h w h' w' k line Char Char p q eh ew = refl
same_kind h w h' w' k line More More p q eh ew = refl
same_kind h w h' w' k line Height Size p (n, inl q, not) eh ew = absurd (p.1 n q.1)
same_kind h w h' w' k line Height Size p (n, inr q, not) eh ew = absurd (omega arith)
same_kind h w h' w' k line Size Height (n, inl p, not) q eh ew = absurd (q.1 n p.1)
same_kind h w h' w' k line Size Height (n, inr p, not) q eh ew = absurd (omega arith)
same_kind h w h' w' k line Width Size p (n, inl q, not) eh ew = absurd (omega arith)
same_kind h w h' w' k line Width Size p (n, inr q, not) eh ew = absurd (p.1 n q.1)
same_kind h w h' w' k line Size Width (n, inl p, not) q eh ew = absurd (omega arith)
same_kind h w h' w' k line Size Width (n, inr p, not) q eh ew = absurd (q.1 n p.1)
same_kind h w h' w' k line Short Row p q eh ew = absurd (subst (λ there. IsSomeAnd there (λ row. length row ≢ w')) p.1 q.1)
same_kind h w h' w' k line Short Char p q eh ew = absurd (subst (λ there. IsSomeAnd there (λ row. (length row ≡ w') × (¬ IsTrue (is_row row)))) p.1 q.1)
same_kind h w h' w' k line Row Short p q eh ew = absurd (subst (λ there. IsSomeAnd there (λ row. length row ≢ w)) q.1 p.1)
same_kind h w h' w' k line Char Short p q eh ew = absurd (subst (λ there. IsSomeAnd there (λ row. (length row ≡ w) × (¬ IsTrue (is_row row)))) q.1 p.1)
same_kind h w h' w' k line Row Char p q eh ew = absurd (not_both line (λ row. length row ≢ w) (λ row. (length row ≡ w') × (¬ IsTrue (is_row row))) (λ row x y. x (y.0 ∙ sym (ew (omega arith)))) p.1 q.1)
same_kind h w h' w' k line Char Row p q eh ew = absurd (not_both line (λ row. (length row ≡ w) × (¬ IsTrue (is_row row))) (λ row. length row ≢ w') (λ row x y. y (x.0 ∙ ew (omega arith))) p.1 q.1)
same_kind h w h' w' k line Size _ (n, inl p, not) q eh ew = absurd (omega arith)
same_kind h w h' w' k line Size _ (n, inr p, not) q eh ew = absurd (omega arith)
same_kind h w h' w' k line _ Size p (n, inl q, not) eh ew = absurd (omega arith)
same_kind h w h' w' k line _ Size p (n, inr q, not) eh ew = absurd (omega arith)
same_kind h w h' w' k line Short More p q eh ew = absurd (omega (arith, eh (omega arith)))
same_kind h w h' w' k line Row More p q eh ew = absurd (omega (arith, eh (omega arith)))
same_kind h w h' w' k line Char More p q eh ew = absurd (omega (arith, eh (omega arith)))
same_kind h w h' w' k line More Short p q eh ew = absurd (omega (arith, eh (omega arith)))
same_kind h w h' w' k line More Row p q eh ew = absurd (omega (arith, eh (omega arith)))
same_kind h w h' w' k line More Char p q eh ew = absurd (omega (arith, eh (omega arith)))
same_kind h w h' w' k line _ _ p q eh ew = absurd (omega arith)

-- a text has one first fault
pub one_fault : (lines : List (List ℕ)) (at at' : ℕ) (kind kind' : MapKind) → IsMapFault lines at kind → IsMapFault lines at' kind' → (at ≡ at') × (kind ≡ kind')
one_fault lines at at' kind kind' a b = ⊎_elim same (λ apart. absurd (⊎_elim first second apart)) (cases_order a.place b.place)
  where
    first : a.place < b.place → ⊥
    first before = right_or_wrong b.height b.width a.height a.width a.place _ kind (b.above a.place before) a.here
        (λ low. same_height _ _ _ _ _ (b.above 1 (omega arith)) (a.above 1 (omega arith)))
        (λ low. same_width _ _ _ _ _ (b.above 2 (omega arith)) (a.above 2 (omega arith)))

    second : b.place < a.place → ⊥
    second before = right_or_wrong a.height a.width b.height b.width b.place _ kind' (a.above b.place before) b.here
        (λ low. same_height _ _ _ _ _ (a.above 1 (omega arith)) (b.above 1 (omega arith)))
        (λ low. same_width _ _ _ _ _ (a.above 2 (omega arith)) (b.above 2 (omega arith)))

    same : a.place ≡ b.place → (at ≡ at') × (kind ≡ kind')
    same e = (
      omega (arith, a.counted, b.counted),
      same_kind a.height a.width b.height b.width a.place _ kind kind' a.here (subst (λ k. IsWrong b.height b.width k (slice_get lines k) kind') (sym e) b.here)
          (λ low. same_height _ _ _ _ _ (a.above 1 (omega arith)) (b.above 1 (omega (arith, e))))
          (λ low. same_width _ _ _ _ _ (a.above 2 (omega arith)) (b.above 2 (omega (arith, e)))),
    )
