-- From the header, the rows and the end to the whole map.
use Rattle.std.proofs.Common.{ℕ, zero, suc, ◌≡◌, ◌≢◌, ◌+◌, ◌-◌, ◌*◌, ◌<◌, ◌≤◌, Bool, List, [], ◌∷◌, map, length, take, drop, Option, Result, Err, sym, ap, ◌∙◌, subst, ⊎_elim, arith}
use Rattle.std.specs.Prelude.{slice_get, IfSome, IsSomeAnd}
use Rattle.std.proofs.lemmas.Bool.{cases_lt}
use Rattle.std.proofs.lemmas.List.{length-append, length-map, length-drop}
use Rattle.fleet_base.specs.Grid.{IsGrid}
use Rattle.fleet_base.specs.Bytes.{file_lines}
use Rattle.fleet_base.specs.declared.grid.Grid.{Grid}
use Rattle.map_text.specs.declared.fault.MapError.{MapError}
use Rattle.map_text.specs.declared.fault.MapError.TheVariants as map_error
use Rattle.map_text.specs.declared.fault.MapKind.{MapKind}
use Rattle.map_text.specs.declared.fault.MapKind.TheVariants.{Short, Row, Char}
use Rattle.map_text.specs.MapText.{IsRow, IsRowPlace, IsRight, HasHeader, IsMapText, cells_of, is_free_char}
use Rattle.map_text.specs.MapFaults.{IsWrong, IsMapFault, FaultIsFirst}
use Rattle.map_text.specs.RowFaults.{HasRows, AreBlank, IsBlankFault, IsRowsFault, IsWrongRow, RowsFaultIs}
use Rattle.map_text.proofs.FirstFaults.{header_right}
use Rattle.map_text.proofs.TakenRows.{slice_get-drop}

-- a line below the header
pub body_right : (h w k : ℕ) (line : Option (List ℕ)) → 4 ≤ k → (k < 4 + h → IsSomeAnd line (IsRow w)) → (4 + h ≤ k → IfSome line (λ text. text ≡ [])) → IsRight h w k line
body_right h w k line low row blank = record {
  heading = λ f. absurd (omega arith);
  height = λ f. absurd (omega arith);
  width = λ f. absurd (omega arith);
  start = λ f. absurd (omega arith);
  row = λ place. row place.1;
  after = blank;
}

-- the cells of n rows
pub rows_count : (w n : ℕ) (lines : List (List ℕ)) → HasRows w n lines → length (cells_of (take n lines)) ≡ n * w
rows_count w zero lines rows = omega arith
rows_count w (suc n) [] rows = absurd (rows 0 (omega arith))
rows_count w (suc n) (row ∷ others) rows =
    let first : IsRow w row = rows 0 (omega arith) in
    let rest : length (cells_of (take n others)) ≡ n * w = rows_count w n others (λ r small. rows (suc r) (omega arith)) in
    length-append (map is_free_char row) (cells_of (take n others))
    ∙ ap (λ m. m + length (cells_of (take n others))) (length-map row is_free_char ∙ first.width)
    ∙ ap (λ m. w + m) rest
    ∙ omega arith

-- what stands below the header
body_line : (h w : ℕ) (lines body : List (List ℕ)) → HasHeader h w lines body → (k : ℕ) → 4 ≤ k → slice_get lines k ≡ slice_get body (k - 4)
body_line h w lines body header k low =
    ap (slice_get lines) (omega arith) ∙ sym (slice_get-drop 4 lines (k - 4)) ∙ ap (λ ls. slice_get (drop 4 ls) (k - 4)) header.header

-- the header and the first n rows are right
rows_right : (h w n : ℕ) (lines body : List (List ℕ)) → HasHeader h w lines body → n ≤ h → HasRows w n body → (k : ℕ) → k < 4 + n → IsRight h w k (slice_get lines k)
rows_right h w n lines body header most rows k small = ⊎_elim (header_right h w lines body header k) below (cases_lt k 4)
  where
    below : 4 ≤ k → IsRight h w k (slice_get lines k)
    below low = body_right h w k _ low
        (λ place. subst (λ line. IsSomeAnd line (IsRow w)) (sym (body_line h w lines body header k low)) (rows (k - 4) (omega arith)))
        (λ past. absurd (omega arith))

-- a line after the rows
after_right : (h w : ℕ) (lines body : List (List ℕ)) → HasHeader h w lines body → (k : ℕ) → 4 + h ≤ k → IfSome (slice_get (drop h body) (k - (4 + h))) (λ text. text ≡ []) → IsRight h w k (slice_get lines k)
after_right h w lines body header k past blank =
    let there : slice_get lines k ≡ slice_get (drop h body) (k - (4 + h)) =
    body_line h w lines body header k (omega arith) ∙ ap (slice_get body) (omega arith) ∙ sym (slice_get-drop h body (k - (4 + h))) in
    body_right h w k _ (omega arith) (λ place. absurd (omega arith)) (λ _. subst (λ line. IfSome line (λ text. text ≡ [])) (sym there) blank)

-- the whole text is a map
pub whole_map : (h w : ℕ) (text : List ℕ) (body rest : List (List ℕ)) (free : List Bool) → HasHeader h w (file_lines text) body → HasRows w h body → free ≡ cells_of (take h body) → rest ≡ drop h body → AreBlank rest
    → IsMapText text (record { height = h; width = w; free = free })
whole_map h w text body rest free header rows cells left blank = record {
  lines = λ k. ⊎_elim (rows_right h w h (file_lines text) body header (omega arith) rows k)
      (λ past. after_right h w (file_lines text) body header k past (subst (λ ls. IfSome (slice_get ls (k - (4 + h))) (λ text. text ≡ [])) left (blank (k - (4 + h)))))
      (cases_lt k (4 + h));
  cells = cells ∙ ap (λ ls. cells_of (take h (drop 4 ls))) (sym header.header);
}

-- a wrong row is wrong in the map
wrong_row : (h w k : ℕ) (line : Option (List ℕ)) (kind : MapKind) → IsRowPlace h k → IsWrongRow w line kind → IsWrong h w k line kind
wrong_row h w k line Short place wrong = (place, wrong)
wrong_row h w k line Row place wrong = (place, wrong)
wrong_row h w k line Char place wrong = (place, wrong)
wrong_row h w k line _ place wrong = absurd wrong

-- the first wrong row is the first fault
pub fault_in_rows : (h w : ℕ) (lines body : List (List ℕ)) (at : ℕ) (kind : MapKind) → HasHeader h w lines body → IsRowsFault w h body at kind → IsMapFault lines at kind
fault_in_rows h w lines body at kind header fault = record {
  place = 4 + fault.place;
  height = h;
  width = w;
  counted = omega (arith, fault.counted);
  above = rows_right h w fault.place lines body header (omega (arith, fault.within)) fault.above;
  here = wrong_row h w (4 + fault.place) _ kind (omega arith, omega (arith, fault.within))
      (subst (λ line. IsWrongRow w line kind) (ap (slice_get body) (omega arith) ∙ sym (body_line h w lines body header (4 + fault.place) (omega arith))) fault.here);
}

-- the first line that is not empty after the rows is the first fault
pub fault_in_end : (h w : ℕ) (lines body rest : List (List ℕ)) (at : ℕ) (kind : MapKind) → HasHeader h w lines body → HasRows w h body → rest ≡ drop h body → IsBlankFault (4 + h) rest at kind → IsMapFault lines at kind
fault_in_end h w lines body rest at kind header rows left fault = subst (IsMapFault lines at) (sym fault.more) (record {
  place = 4 + h + fault.place;
  height = h;
  width = w;
  counted = omega (arith, fault.counted);
  above = λ j small. ⊎_elim (rows_right h w h lines body header (omega arith) rows j)
      (λ past. after_right h w lines body header j past (subst (λ ls. IfSome (slice_get ls (j - (4 + h))) (λ text. text ≡ [])) left (fault.blank (j - (4 + h)) (omega arith))))
      (cases_lt j (4 + h));
  here = (omega arith, subst (λ line. IsSomeAnd line (λ text. text ≢ [])) there fault.here);
})
  where
    there : slice_get rest fault.place ≡ slice_get lines (4 + h + fault.place)
    there = ap (λ ls. slice_get ls fault.place) left ∙ slice_get-drop h body fault.place ∙ ap (slice_get body) (omega arith)
        ∙ sym (body_line h w lines body header (4 + h + fault.place) (omega arith))

-- a refusal of the rows is the first fault
pub rows_refused : {T : Type 0} (h w : ℕ) (lines body : List (List ℕ)) (e : MapError) (r : Result T MapError) (q : Result Grid MapError) → r ≡ Err e → q ≡ Err e
    → HasHeader h w lines body → RowsFaultIs w h body r → FaultIsFirst lines q
rows_refused h w lines body (map_error.Fault f) r q refused returned header fault =
    subst (FaultIsFirst lines) (sym returned) (fault_in_rows h w lines body f.line f.kind header (subst (RowsFaultIs w h body) refused fault))
rows_refused h w lines body map_error.Memory r q refused returned header fault = subst (FaultIsFirst lines) (sym returned) tt

-- the rows are there
rows_there : (w n : ℕ) (lines : List (List ℕ)) → HasRows w n lines → n ≤ length lines
rows_there w zero lines rows = omega arith
rows_there w (suc n) [] rows = absurd (rows 0 (omega arith))
rows_there w (suc n) (row ∷ others) rows = omega (arith, rows_there w n others (λ r small. rows (suc r) (omega arith)))

-- how many lines there are
pub line_count : (h w : ℕ) (lines body rest : List (List ℕ)) → HasHeader h w lines body → HasRows w h body → rest ≡ drop h body → 4 + h + length rest ≡ length lines
line_count h w lines body rest header rows left =
    omega (arith, ap length header.header, ap length left, length-drop h body, rows_there w h body rows)

-- a map is a grid
pub whole_grid : (h w : ℕ) (lines body : List (List ℕ)) (free : List Bool) → HasHeader h w lines body → HasRows w h body → free ≡ cells_of (take h body) → IsGrid (record { height = h; width = w; free = free })
whole_grid h w lines body free header rows cells = record {
  height = header.height;
  width = header.width;
  cells = ap length cells ∙ rows_count w h body rows;
}
