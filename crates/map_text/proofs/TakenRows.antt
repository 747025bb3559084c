-- The rows that were read so far.
use Rattle.std.proofs.Common.{ℕ, zero, suc, ◌≡◌, ◌+◌, ◌<◌, Bool, List, [], ◌∷◌, ◌++◌, map, length, take, drop, get_or, Some, Result, Err, refl, sym, ap, ◌∙◌, subst, below_none, below_more, arith}
use Rattle.std.specs.Prelude.{slice_get, IsSomeAnd}
use Rattle.std.proofs.lemmas.List.{append-nil, drop-drop, length-drop, take_more, get_or-drop}
use Rattle.std.proofs.lemmas.List.Concat.{flat_map-append}
use Rattle.map_text.specs.declared.fault.MapKind.{MapKind}
use Rattle.map_text.specs.MapText.{IsRow, is_free_char, cells_of}
use Rattle.map_text.specs.declared.fault.MapError.{MapError}
use Rattle.map_text.specs.declared.fault.MapError.TheVariants as map_error
use Rattle.map_text.specs.RowFaults.{HasRows, TakesRow, IsWrongRow, IsRowsFault, RowFaultIs, RowsFaultIs}

-- what stands at a place of the rest of a list
pub slice_get-drop : {X : Type 0} (n : ℕ) (xs : List X) (k : ℕ) → slice_get (drop n xs) k ≡ slice_get xs (n + k)
slice_get-drop zero xs k = ap (slice_get xs) (omega arith)
slice_get-drop (suc n) [] k = refl
slice_get-drop (suc n) (x ∷ xs) k = slice_get-drop n xs k ∙ ap (slice_get (x ∷ xs)) (the_next n k)
  where
    the_next : (n k : ℕ) → suc (n + k) ≡ suc n + k
    the_next n k = omega arith

-- a list goes on with its next element
take_next : {X : Type 0} (n : ℕ) (xs : List X) (y : X) (ys : List X) → drop n xs ≡ y ∷ ys → take (n + 1) xs ≡ take n xs ++ y ∷ []
take_next {X} n xs y ys e =
    let inside : n < length xs = omega (arith, length-drop n xs, ap length e) in
    let here : get_or xs n y ≡ y = ap (λ k. get_or xs k y) (omega arith) ∙ sym (get_or-drop n xs 0 y) ∙ ap (λ zs. get_or zs 0 y) e in
    take_more xs n y inside ∙ ap (λ z. take n xs ++ z ∷ []) here

-- n rows were read from these lines, with the rest left, and gave these cells
pub record TakenRows (w n : ℕ) (lines rest : List (List ℕ)) (marks : List Bool) : Type 0 where
  pub rows : HasRows w n lines
  pub left : drop n lines ≡ rest
  pub cells : marks ≡ cells_of (take n lines)

pub none_taken : (w : ℕ) (lines : List (List ℕ)) → TakenRows w 0 lines lines []
none_taken w lines = record {
  rows = below_none _;
  left = refl;
  cells = refl;
}

pub one_more : {w n : ℕ} {lines rest rest' : List (List ℕ)} {marks marks' : List Bool} → TakenRows w n lines rest marks → TakesRow w rest rest' marks marks' → TakenRows w (n + 1) lines rest' marks'
one_more {w} {n} {lines} {rest} {rest'} {marks} {marks'} so one =
    let next : drop n lines ≡ one.row ∷ rest' = so.left ∙ one.line in
    let here : slice_get lines n ≡ Some one.row = ap (slice_get lines) (omega arith) ∙ sym (slice_get-drop n lines 0) ∙ ap (λ ls. slice_get ls 0) next in
    record {
      rows = below_more (λ r. IsSomeAnd (slice_get lines r) (IsRow w)) n so.rows (subst (λ line. IsSomeAnd line (IsRow w)) (sym here) one.is_row);
      left = sym (drop-drop 1 n lines) ∙ ap (drop 1) next;
      cells = one.cells ∙ ap (λ xs. xs ++ map is_free_char one.row) so.cells
          ∙ ap (λ xs. cells_of (take n lines) ++ xs) (sym (append-nil (map is_free_char one.row)))
          ∙ sym (flat_map-append (λ row. map is_free_char row) (take n lines) (one.row ∷ []))
          ∙ ap cells_of (sym (take_next n lines one.row rest' next));
    }

pub first_wrong : {w n h : ℕ} {lines rest : List (List ℕ)} {marks : List Bool} (at : ℕ) (kind : MapKind) → TakenRows w n lines rest marks → n < h → at ≡ 5 + n → IsWrongRow w (slice_get rest 0) kind → IsRowsFault w h lines at kind
first_wrong {w} {n} {h} {lines} {rest} {marks} at kind so within counted wrong =
    let here : slice_get rest 0 ≡ slice_get lines n = ap (λ ls. slice_get ls 0) (sym so.left) ∙ slice_get-drop n lines 0 ∙ ap (slice_get lines) (omega arith) in
    record {
      place = n;
      counted = counted;
      within = within;
      above = so.rows;
      here = subst (λ line. IsWrongRow w line kind) here wrong;
    }

-- a refusal of the next row is one of the rows
pub rows_fault : {T U : Type 0} {w n h : ℕ} {lines rest : List (List ℕ)} {marks : List Bool} (e : MapError) (r : Result T MapError) (q : Result U MapError) → r ≡ Err e → q ≡ Err e
    → TakenRows w n lines rest marks → n < h → RowFaultIs w (slice_get rest 0) (5 + n) r → RowsFaultIs w h lines q
rows_fault {T} {U} {w} {n} {h} {lines} {rest} {marks} (map_error.Fault f) r q refused returned so within fault =
    let here = subst (RowFaultIs w (slice_get rest 0) (5 + n)) refused fault in
    subst (RowsFaultIs w h lines) (sym returned) (first_wrong f.line f.kind so within here.0 here.1)
rows_fault {T} {U} {w} {n} {h} {lines} {rest} {marks} map_error.Memory r q refused returned so within fault =
    subst (RowsFaultIs w h lines) (sym returned) tt
