-- What is written of a map up to a row.
use Rattle.std.proofs.Common.{ℕ, zero, suc, ◌≡◌, ◌+◌, ◌^◌, ◌<◌, List, [], ◌∷◌, ◌++◌, map, decimal, refl, sym, ap, ◌∙◌, arith, if◌then◌else◌}
use Rattle.std.specs.Prelude.{codes, flat_map}
use Rattle.std.specs.List.{range_with_len}
use Rattle.std.specs.Fmt.{digits}
use Rattle.std.proofs.lemmas.Fmt.{decimal-digits_of}
use Rattle.std.proofs.lemmas.List.{append_assoc, append-nil}
use Rattle.std.proofs.lemmas.List.Concat.{flat_map-append}
use Rattle.std.proofs.lemmas.List.FromFn.{map-range_with_len_more}
use Rattle.fleet_base.specs.Grid.{OccupancyGrid, is_free}
use Rattle.fleet_base.specs.Bytes.{numeral}
use Rattle.map_text.specs.MapText.{height_line, width_line, row_text}
use Rattle.map_text.proofs.Digits.{numeral-above}

-- the mark of a cell
abbrev pub mark_of : OccupancyGrid → ℕ → ℕ → ℕ
mark_of g r c = if is_free g (record { row = r; col = c }) then 46 else 64

-- a line with its LF
abbrev pub ended : List ℕ → List ℕ
ended line = line ++ 10 ∷ []

-- the header and the first n rows
abbrev pub text_of_rows : OccupancyGrid → ℕ → List ℕ
text_of_rows g n = flat_map ended (codes "type octile" ∷ height_line g.height ∷ width_line g.width ∷ codes "map" ∷ map (row_text g) (range_with_len 0 n))

-- the decimal digits of std are the numeral, below 2^64
decimal-numeral : (n : ℕ) → n < 2 ^ 64 → decimal n ≡ numeral n
unfolding digits
decimal-numeral zero small = refl
decimal-numeral (suc m) small = decimal-digits_of (suc m) (omega arith) small ∙ sym (numeral-above (suc m) (omega arith))

-- one more line
more_lines : (front rows : List (List ℕ)) (row : List ℕ) → flat_map ended (front ++ (rows ++ row ∷ [])) ≡ flat_map ended (front ++ rows) ++ ended row
more_lines front rows row =
    ap (flat_map ended) (sym (append_assoc front rows (row ∷ [])))
    ∙ flat_map-append ended (front ++ rows) (row ∷ [])
    ∙ ap (λ xs. flat_map ended (front ++ rows) ++ xs) (append-nil (ended row))

pub one_more_row : (g : OccupancyGrid) (n : ℕ) → text_of_rows g (n + 1) ≡ text_of_rows g n ++ ended (row_text g n)
one_more_row g n =
    let front : List (List ℕ) = codes "type octile" ∷ height_line g.height ∷ width_line g.width ∷ codes "map" ∷ [] in
    ap (λ rows. flat_map ended (front ++ rows)) (map-range_with_len_more (row_text g) 0 n n (omega arith))
    ∙ more_lines front (map (row_text g) (range_with_len 0 n)) (row_text g n)

-- the header is written in five pieces
regrouped : (a l p h q w m : List ℕ)
    → ((((([] ++ ((a ++ l) ++ p)) ++ h) ++ (l ++ q)) ++ w) ++ ((l ++ m) ++ l)) ≡ (a ++ l) ++ (((p ++ h) ++ l) ++ (((q ++ w) ++ l) ++ ((m ++ l) ++ [])))
regrouped a l p h q w m = simp (append_assoc, append-nil)

pieces : (h w : List ℕ)
    → ((((([] ++ codes "type octile\nheight ") ++ h) ++ codes "\nwidth ") ++ w) ++ codes "\nmap\n")
    ≡ flat_map ended (codes "type octile" ∷ (codes "height " ++ h) ∷ (codes "width " ++ w) ∷ codes "map" ∷ [])
pieces h w = regrouped (codes "type octile") (10 ∷ []) (codes "height ") h (codes "width ") w (codes "map")

header_text : (g : OccupancyGrid) (h w : List ℕ) → h ≡ numeral g.height → w ≡ numeral g.width
    → ((((([] ++ codes "type octile\nheight ") ++ h) ++ codes "\nwidth ") ++ w) ++ codes "\nmap\n") ≡ text_of_rows g 0
header_text g h w e f = pieces h w ∙ ap (λ x. flat_map ended (codes "type octile" ∷ (codes "height " ++ x) ∷ (codes "width " ++ w) ∷ codes "map" ∷ [])) e
    ∙ ap (λ x. flat_map ended (codes "type octile" ∷ height_line g.height ∷ (codes "width " ++ x) ∷ codes "map" ∷ [])) f

-- the header as it is written, call by call
pub header_written : (g : OccupancyGrid) (t₀ t₁ t₂ t₃ t₄ t₅ : List ℕ) (h w : ℕ) → h ≡ g.height → w ≡ g.width → h < 2 ^ 64 → w < 2 ^ 64
    → t₀ ≡ [] → t₁ ≡ t₀ ++ codes "type octile\nheight " → t₂ ≡ t₁ ++ decimal h → t₃ ≡ t₂ ++ codes "\nwidth " → t₄ ≡ t₃ ++ decimal w → t₅ ≡ t₄ ++ codes "\nmap\n"
    → t₅ ≡ text_of_rows g 0
header_written g t₀ t₁ t₂ t₃ t₄ t₅ h w high wide h_fits w_fits e₀ e₁ e₂ e₃ e₄ e₅ =
    e₅
    ∙ ap (λ t. t ++ codes "\nmap\n") (e₄
    ∙ ap (λ t. t ++ decimal w) (e₃
    ∙ ap (λ t. t ++ codes "\nwidth ") (e₂
    ∙ ap (λ t. t ++ decimal h) (e₁
    ∙ ap (λ t. t ++ codes "type octile\nheight ") e₀))))
    ∙ header_text g (decimal h) (decimal w) (decimal-numeral h h_fits ∙ ap numeral high) (decimal-numeral w w_fits ∙ ap numeral wide)
