-- The text of a map, in the profile of MovingAI maps that the program reads.
use Rattle.std.specs.Prelude.{ℕ, ◌≡◌, ◌+◌, ◌<◌, ◌≤◌, List, [], ◌∷◌, ◌++◌, map, flat_map, length, take, drop, slice_get, Option, Some, Bool, IfSome, IsSomeAnd, IsTrue, codes, if◌then◌else◌, ◌==◌, ◌||◌}
use Rattle.std.specs.List.{list_all}
use Rattle.fleet_base.specs.Lists.{range}
use Rattle.fleet_base.specs.Grid.{OccupancyGrid, is_free}
use Rattle.fleet_base.specs.Bytes.{file_lines, numeral, text_of_lines}
use Rattle.fleet_base.specs.Limits.{span_limit}

-- the characters `.`, `G` and `S` stand for free cells
abbrev pub is_free_char : ℕ → Bool
is_free_char c = c == 46 || c == 71 || c == 83

-- the characters `@`, `O`, `T` and `W` stand for blocked cells
abbrev pub is_blocked_char : ℕ → Bool
is_blocked_char c = c == 64 || c == 79 || c == 84 || c == 87

-- whether a line has these seven characters alone
abbrev pub is_row : List ℕ → Bool
is_row line = list_all (λ c. is_free_char c || is_blocked_char c) line

-- a row of a map of this width
pub record IsRow (w : ℕ) (line : List ℕ) : Type 0 where
  pub width : length line ≡ w
  pub chars : IsTrue (is_row line)

-- a side that a map may have
abbrev pub IsSize : ℕ → Type 0
IsSize n = (1 ≤ n) × (n ≤ span_limit)

-- the header line of the height, which may be any number
abbrev pub height_line : ℕ → List ℕ
height_line n = codes "height " ++ numeral n

-- the header line of the width
abbrev pub width_line : ℕ → List ℕ
width_line n = codes "width " ++ numeral n

-- these lines are the header of a map of height h and width w, and then others
pub record HasHeader (h w : ℕ) (lines others : List (List ℕ)) : Type 0 where
  pub height : IsSize h
  pub width : IsSize w
  pub header : lines ≡ codes "type octile" ∷ height_line h ∷ width_line w ∷ codes "map" ∷ others

-- line k is one of the rows, which stand below the four lines of the header; lines are counted from 0
abbrev pub IsRowPlace : ℕ → ℕ → Type 0
IsRowPlace h k = (4 ≤ k) × (k < 4 + h)

-- what stands at line k of a map of height h and width w, or that nothing does, is as it should be
pub record IsRight (h w k : ℕ) (line : Option (List ℕ)) : Type 0 where
  pub heading : k ≡ 0 → line ≡ Some (codes "type octile")
  pub height : k ≡ 1 → (line ≡ Some (height_line h)) × IsSize h
  pub width : k ≡ 2 → (line ≡ Some (width_line w)) × IsSize w
  pub start : k ≡ 3 → line ≡ Some (codes "map")
  pub row : IsRowPlace h k → IsSomeAnd line (IsRow w)
  pub after : 4 + h ≤ k → IfSome line (λ text. text ≡ [])

-- the cells of the rows, one row after another
abbrev pub cells_of : List (List ℕ) → List Bool
cells_of rows = flat_map (λ row. map is_free_char row) rows

-- the text is a map, and the map is this grid
pub record IsMapText (text : List ℕ) (g : OccupancyGrid) : Type 0 where
  pub lines : (k : ℕ) → IsRight g.height g.width k (slice_get (file_lines text) k)
  pub cells : g.free ≡ cells_of (take g.height (drop 4 (file_lines text)))

-- a row as it is written: `.` for a free cell and `@` for a blocked one
abbrev pub row_text : OccupancyGrid → ℕ → List ℕ
row_text g r = map (λ c. if is_free g (record { row = r; col = c }) then 46 else 64) (range 0 g.width)

-- the lines of a grid as they are written
abbrev pub map_lines : OccupancyGrid → List (List ℕ)
map_lines g = codes "type octile" ∷ height_line g.height ∷ width_line g.width ∷ codes "map" ∷ map (row_text g) (range 0 g.height)

-- the canonical text of a grid: each line with an LF
abbrev pub map_text_of : OccupancyGrid → List ℕ
map_text_of g = text_of_lines (map_lines g)
