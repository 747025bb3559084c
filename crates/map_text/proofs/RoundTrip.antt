-- The canonical text of a map means that map.
use Rattle.std.proofs.Common.{ℕ, zero, suc, ◌≡◌, ◌+◌, ◌-◌, ◌*◌, ◌<◌, ◌≤◌, Bool, true, false, List, [], ◌∷◌, ◌++◌, map, length, take, drop, get_or, cond, not, ◌&&◌, ◌||◌, eqb, add-one, if◌then◌else◌, Some, refl, sym, ap, ◌∙◌, subst, arith}
use Rattle.std.specs.Prelude.{codes, flat_map, slice_get, IsSomeAnd}
use Rattle.std.specs.List.{list_all, range_with_len}
use Rattle.std.proofs.Math.Seq.{take-add}
use Rattle.std.proofs.lemmas.Bool.{and_parts, not-true, ne_eqb, lt-ltb, and_from}
use Rattle.std.proofs.Math.Nat.{mul-le-mul_right, zero-mul, suc-mul}
use Rattle.std.proofs.lemmas.List.{append_assoc, append-nil, length-take, length-drop, length-map, get_or-take, get_or-drop, get_or-map, take_all, drop_all, ext_get_or}
use Rattle.std.proofs.lemmas.List.Concat.{flat_map-append}
use Rattle.std.proofs.lemmas.List.FromFn.{length-map-range_with_len, get_or-map-range_with_len, map-range_with_len_more}
use Rattle.std.proofs.lemmas.List.Folds.{list_all-append}
use Rattle.std.proofs.lemmas.List.Sums.{list_all-from_AllPass}
use Rattle.std.proofs.lemmas.List.Elements.{All-from_get_or}
use Rattle.std.proofs.lemmas.Option.{slice_get-get_or}
use Rattle.fleet_base.specs.Grid.{OccupancyGrid, IsGrid, is_free}
use Rattle.fleet_base.specs.Bytes.{in_front, pieces_of, without_cr, without_empty_end, file_lines, numeral}
use Rattle.map_text.specs.MapText.{IsMapText, IsRow, HasHeader, is_free_char, is_blocked_char, height_line, width_line, map_text_of, map_lines, row_text, cells_of}
use Rattle.map_text.specs.RowFaults.{HasRows}
use Rattle.map_text.proofs.Digits.{numeral_digit}
use Rattle.fleet_base.proofs.FirstLine.{without_end-kept}
use Rattle.fleet_base.proofs.Pieces.{pieces_some}
use Rattle.map_text.proofs.WholeMap.{whole_map}
use Rattle.map_text.proofs.WrittenMap.{mark_of, ended}

-- a character that neither ends a line nor is a CR
abbrev is_plain_char : ℕ → Bool
is_plain_char c = not (eqb c 10) && not (eqb c 13)

-- a line of these alone
abbrev is_plain : List ℕ → Bool
is_plain line = list_all is_plain_char line

-- what the tests of a plain line say
head_plain : (c : ℕ) (cs : List ℕ) → is_plain (c ∷ cs) ≡ true → (eqb c 10 ≡ false) × (eqb c 13 ≡ false) × (is_plain cs ≡ true)
head_plain c cs plain =
    let both = and_parts (is_plain_char c) (is_plain cs) plain in
    let parts = and_parts (not (eqb c 10)) (not (eqb c 13)) both.0 in
    (not-true _ parts.0, not-true _ parts.1, both.1)

-- a plain line and an LF are one piece
pieces_of-ended : (line rest : List ℕ) → is_plain line ≡ true → pieces_of (line ++ 10 ∷ rest) ≡ line ∷ pieces_of rest
pieces_of-ended [] rest plain = refl
pieces_of-ended (c ∷ cs) rest plain =
    let parts = head_plain c cs plain in
    ap (λ b. cond b ([] ∷ pieces_of (cs ++ 10 ∷ rest)) (in_front c (pieces_of (cs ++ 10 ∷ rest)))) parts.0
    ∙ ap (in_front c) (pieces_of-ended cs rest parts.2)

-- a plain line has no CR at its end
without_cr-plain : (line : List ℕ) → is_plain line ≡ true → without_cr line ≡ line
without_cr-plain [] plain = refl
without_cr-plain (c ∷ []) plain = let parts = head_plain c [] plain in ap (λ b. cond b [] (c ∷ [])) parts.1
without_cr-plain (c ∷ d ∷ cs) plain = let parts = head_plain c (d ∷ cs) plain in ap (λ rest. c ∷ rest) (without_cr-plain (d ∷ cs) parts.2)

-- the first line of a text that begins with a plain one
file_lines-ended_plain : (line rest : List ℕ) → is_plain line ≡ true → file_lines (line ++ 10 ∷ rest) ≡ line ∷ file_lines rest
file_lines-ended_plain line rest plain =
    ap (λ pieces. map without_cr (without_empty_end pieces)) (pieces_of-ended line rest plain)
    ∙ ap (λ pieces. map without_cr pieces) (without_end-kept line (pieces_of rest) _ _ (pieces_some rest).2)
    ∙ ap (λ first. first ∷ file_lines rest) (without_cr-plain line plain)

-- the lines of a text that was made of plain lines
file_lines-of_lines : (lines : List (List ℕ)) → list_all is_plain lines ≡ true → file_lines (flat_map ended lines) ≡ lines
file_lines-of_lines [] plain = refl
file_lines-of_lines (line ∷ lines) plain =
    let both = and_parts (is_plain line) (list_all is_plain lines) plain in
    ap file_lines (append_assoc line (10 ∷ []) (flat_map ended lines))
    ∙ file_lines-ended_plain line (flat_map ended lines) both.0
    ∙ ap (λ rest. line ∷ rest) (file_lines-of_lines lines both.1)

-- a test of each made element
list_all-made : {X Y : Type 0} (p : Y → Bool) (f : X → Y) → ((x : X) → p (f x) ≡ true) → (xs : List X) → list_all p (map f xs) ≡ true
list_all-made p f holds [] = refl
list_all-made p f holds (x ∷ xs) = and_from (p (f x)) (list_all p (map f xs)) (holds x) (list_all-made p f holds xs)

-- a number is plain
numeral_plain : (n : ℕ) → is_plain (numeral n) ≡ true
numeral_plain n = list_all-from_AllPass is_plain_char (numeral n) (All-from_get_or (λ c. is_plain_char c ≡ true) (numeral n) 0 each)
  where
    each : (k : ℕ) → k < length (numeral n) → is_plain_char (get_or (numeral n) k 0) ≡ true
    each k inside = let digit = numeral_digit n k inside in plain_digit (get_or (numeral n) k 0) digit.0
      where
        plain_digit : (c : ℕ) → 48 ≤ c → is_plain_char c ≡ true
        plain_digit c low =
            let a : eqb c 10 ≡ false = ne_eqb c 10 (λ e. omega arith) in
            let b : eqb c 13 ≡ false = ne_eqb c 13 (λ e. omega arith) in
            rw (a, b) refl

-- the marks of a cell are plain, stand for cells, and say whether it is free
mark_plain : (b : Bool) → is_plain_char (if b then 46 else 64) ≡ true
mark_plain true = refl
mark_plain false = refl

mark_known : (b : Bool) → (is_free_char (if b then 46 else 64) || is_blocked_char (if b then 46 else 64)) ≡ true
mark_known true = refl
mark_known false = refl

mark_free : (b : Bool) → is_free_char (if b then 46 else 64) ≡ b
mark_free true = refl
mark_free false = refl

-- all lines of a map are plain
lines_plain : (g : OccupancyGrid) → list_all is_plain (map_lines g) ≡ true
lines_plain g =
    and_from _ _ (list_all-append is_plain_char (codes "height ") (numeral g.height) ∙ numeral_plain g.height)
    (and_from _ _ (list_all-append is_plain_char (codes "width ") (numeral g.width) ∙ numeral_plain g.width)
    (list_all-made is_plain (row_text g) (λ r. list_all-made is_plain_char (mark_of g r) (λ c. mark_plain (is_free g (record { row = r; col = c }))) (range_with_len 0 (g.width - 0))) (range_with_len 0 (g.height - 0))))

-- the rows as they are written
abbrev rows_of : OccupancyGrid → ℕ → List (List ℕ)
rows_of g n = map (row_text g) (range_with_len 0 n)

row_written : (g : OccupancyGrid) (r : ℕ) → IsRow g.width (row_text g r)
row_written g r = record {
  width = length-map-range_with_len (mark_of g r) 0 (g.width - 0) ∙ omega arith;
  chars = list_all-made (λ c. is_free_char c || is_blocked_char c) (mark_of g r) (λ c. mark_known (is_free g (record { row = r; col = c }))) (range_with_len 0 (g.width - 0));
}

rows_written : (g : OccupancyGrid) (n : ℕ) → HasRows g.width n (rows_of g n)
rows_written g n r small =
    let there : slice_get (rows_of g n) r ≡ Some (row_text g r) =
    slice_get-get_or (rows_of g n) r [] (omega (arith, length-map-range_with_len (row_text g) 0 n))
    ∙ ap (λ row. Some row) (get_or-map-range_with_len (row_text g) 0 n r r [] small (omega arith)) in
    subst (λ line. IsSomeAnd line (IsRow g.width)) (sym there) (row_written g r)

-- the cells of a row
cells_of_row : (g : OccupancyGrid) → IsGrid g → (r : ℕ) → r < g.height → map is_free_char (row_text g r) ≡ take g.width (drop (r * g.width) g.free)
cells_of_row g grid r inside = ext_get_or false _ _ (count ∙ sym room) each
  where
    count : length (map is_free_char (row_text g r)) ≡ g.width
    count = length-map (row_text g r) is_free_char ∙ (row_written g r).width

    below : r * g.width + g.width ≤ length g.free
    below = let next : r + 1 ≤ g.height = omega arith in omega (arith, grid.cells, mul-le-mul_right g.width next)

    room : length (take g.width (drop (r * g.width) g.free)) ≡ g.width
    room = omega (arith, length-take g.width (drop (r * g.width) g.free), length-drop (r * g.width) g.free, below)

    each : (c : ℕ) → c < length (map is_free_char (row_text g r)) → get_or (map is_free_char (row_text g r)) c false ≡ get_or (take g.width (drop (r * g.width) g.free)) c false
    each c small =
        let there : c < g.width = omega (arith, count) in
        let wide : c < g.width - 0 = omega arith in
        let free : Bool = is_free g (record { row = r; col = c }) in
        get_or-map is_free_char (row_text g r) c 0 false (omega (arith, (row_written g r).width))
        ∙ ap is_free_char (get_or-map-range_with_len (mark_of g r) 0 (g.width - 0) c c 0 wide (omega arith))
        ∙ mark_free free
        ∙ free_there c there
        ∙ sym (get_or-drop (r * g.width) g.free c false)
        ∙ sym (get_or-take g.width (drop (r * g.width) g.free) c false there)
      where
        free_there : (c : ℕ) → c < g.width → is_free g (record { row = r; col = c }) ≡ get_or g.free (r * g.width + c) false
        free_there c there = rw (lt-ltb r g.height inside, lt-ltb c g.width there) refl

-- the cells of the first rows
cells_of_rows : (g : OccupancyGrid) → IsGrid g → (n : ℕ) → n ≤ g.height → cells_of (rows_of g n) ≡ take (n * g.width) g.free
cells_of_rows g grid zero most = sym (ap (λ k. take k g.free) (zero-mul g.width))
cells_of_rows g grid (suc n) most =
    ap (λ k. cells_of (rows_of g k)) (sym (add-one n))
    ∙ ap cells_of (map-range_with_len_more (row_text g) 0 n n (omega arith))
    ∙ flat_map-append (λ row. map is_free_char row) (rows_of g n) (row_text g n ∷ [])
    ∙ ap (λ cells. cells_of (rows_of g n) ++ cells) (append-nil (map is_free_char (row_text g n)))
    ∙ ap (λ cells. cells ++ map is_free_char (row_text g n)) (cells_of_rows g grid n (omega arith))
    ∙ ap (λ cells. take (n * g.width) g.free ++ cells) (cells_of_row g grid n (omega arith))
    ∙ sym (take-add (n * g.width) g.width g.free)
    ∙ ap (λ k. take k g.free) (sym (suc-mul n g.width))

pub read_back : (g : OccupancyGrid) → IsGrid g → IsMapText (map_text_of g) g
read_back g grid =
    let body : List (List ℕ) = rows_of g g.height in
    let is : file_lines (map_text_of g) ≡ codes "type octile" ∷ height_line g.height ∷ width_line g.width ∷ codes "map" ∷ body =
    file_lines-of_lines (map_lines g) (lines_plain g)
    ∙ ap (λ n. codes "type octile" ∷ height_line g.height ∷ width_line g.width ∷ codes "map" ∷ rows_of g n) (omega arith) in
    let header : HasHeader g.height g.width (file_lines (map_text_of g)) body = record { height = grid.height; width = grid.width; header = is } in
    let count : length body ≡ g.height = length-map-range_with_len (row_text g) 0 g.height in
    let cells : g.free ≡ cells_of (take g.height body) =
    sym (take_all (g.height * g.width) g.free (omega (arith, grid.cells)))
    ∙ sym (cells_of_rows g grid g.height (omega arith))
    ∙ ap cells_of (sym (take_all g.height body (omega arith))) in
    whole_map g.height g.width (map_text_of g) body [] g.free header (rows_written g g.height) cells (sym (drop_all g.height body (omega arith))) (λ r. tt)
