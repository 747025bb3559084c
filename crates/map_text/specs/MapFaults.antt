-- The first fault of a text that is no map.
use Rattle.std.specs.Prelude.{ℕ, ◌≡◌, ◌≢◌, ◌⊎◌, ◌+◌, ◌<◌, ◌≤◌, List, [], ◌++◌, length, slice_get, Option, Some, None, IsSomeAnd, IsTrue, codes, Result, Ok, Err}
use Rattle.fleet_base.specs.declared.grid.Grid.{Grid}
use Rattle.fleet_base.specs.Bytes.{numeral}
use Rattle.fleet_base.specs.Grid.{OccupancyGrid}
use Rattle.map_text.specs.declared.fault.MapKind.{MapKind}
use Rattle.map_text.specs.declared.fault.MapKind.TheVariants.{Octile, Height, Width, Size, Map, Short, Row, Char, More}
use Rattle.map_text.specs.declared.fault.MapError.{MapError}
use Rattle.map_text.specs.declared.fault.MapError.TheVariants as map_error
use Rattle.map_text.specs.MapText.{IsSize, is_row, IsRowPlace, IsRight, height_line, width_line}

-- what stands at line k of a map of height h and width w, or that nothing does, is wrong in this way
abbrev pub IsWrong : ℕ → ℕ → ℕ → Option (List ℕ) → MapKind → Type 0
IsWrong h w k line Octile = (k ≡ 0) × (line ≢ Some (codes "type octile"))
IsWrong h w k line Height = (k ≡ 1) × ((n : ℕ) → line ≢ Some (height_line n))
IsWrong h w k line Width = (k ≡ 2) × ((n : ℕ) → line ≢ Some (width_line n))
IsWrong h w k line Size = (n : ℕ) × (((k ≡ 1) × (line ≡ Some (height_line n))) ⊎ ((k ≡ 2) × (line ≡ Some (width_line n)))) × (¬ IsSize n)
IsWrong h w k line Map = (k ≡ 3) × (line ≢ Some (codes "map"))
IsWrong h w k line Short = IsRowPlace h k × (line ≡ None)
IsWrong h w k line Row = IsRowPlace h k × IsSomeAnd line (λ row. length row ≢ w)
IsWrong h w k line Char = IsRowPlace h k × IsSomeAnd line (λ row. (length row ≡ w) × (¬ IsTrue (is_row row)))
IsWrong h w k line More = (4 + h ≤ k) × IsSomeAnd line (λ text. text ≢ [])

-- a header line that names a side, with this label and the kind of its own, is wrong in this way
abbrev pub IsWrongSide : List ℕ → MapKind → Option (List ℕ) → MapKind → Type 0
IsWrongSide label own line kind = ((kind ≡ own) × ((n : ℕ) → line ≢ Some (label ++ numeral n))) ⊎ ((kind ≡ Size) × ((n : ℕ) × (line ≡ Some (label ++ numeral n)) × (¬ IsSize n)))

-- the first line that is not as it should be, counted from 1, and what is wrong there; the height and
-- the width are those that the lines above it give
pub record IsMapFault (lines : List (List ℕ)) (at : ℕ) (kind : MapKind) : Type 0 where
  pub place : ℕ
  pub height : ℕ
  pub width : ℕ
  pub counted : at ≡ place + 1
  pub above : (j : ℕ) → j < place → IsRight height width j (slice_get lines j)
  pub here : IsWrong height width place (slice_get lines place) kind

-- a reading that fails names the first fault of these lines; want of memory is free
abbrev pub FaultIsFirst : List (List ℕ) → Result Grid MapError → Type 0
FaultIsFirst lines (Ok g) = Unit {0}
FaultIsFirst lines (Err (map_error.Fault f)) = IsMapFault lines f.line f.kind
FaultIsFirst lines (Err map_error.Memory) = Unit {0}

-- a reading gives this grid, or memory was wanting
abbrev pub Gives : OccupancyGrid → Result Grid MapError → Type 0
Gives g (Ok x) = x ≡ g
Gives g (Err (map_error.Fault f)) = ⊥
Gives g (Err map_error.Memory) = Unit {0}
