-- What reading the rows of a map gives.
use Rattle.std.specs.Prelude.{ℕ, ◌≡◌, ◌≢◌, ◌+◌, ◌<◌, List, [], ◌∷◌, ◌++◌, map, length, slice_get, Option, None, Bool, IfSome, IsSomeAnd, IsTrue, Result, Ok, Err}
use Rattle.map_text.specs.declared.fault.MapKind.{MapKind}
use Rattle.map_text.specs.declared.fault.MapKind.TheVariants.{Short, Row, Char, More}
use Rattle.map_text.specs.declared.fault.MapError.{MapError}
use Rattle.map_text.specs.declared.fault.MapError.TheVariants as map_error
use Rattle.map_text.specs.MapText.{IsRow, is_row, is_free_char}

-- the first n of these lines are rows of width w
abbrev pub HasRows : ℕ → ℕ → List (List ℕ) → Type 0
HasRows w n lines = (r : ℕ) → r < n → IsSomeAnd (slice_get lines r) (IsRow w)

-- these lines are one row of width w and then the rest, and its cells come to those before
pub record TakesRow (w : ℕ) (lines rest : List (List ℕ)) (old new : List Bool) : Type 0 where
  pub row : List ℕ
  pub line : lines ≡ row ∷ rest
  pub is_row : IsRow w row
  pub cells : new ≡ old ++ map is_free_char row

-- what stands in place of a row of width w, or that nothing does, is wrong in this way
abbrev pub IsWrongRow : ℕ → Option (List ℕ) → MapKind → Type 0
IsWrongRow w line Short = line ≡ None
IsWrongRow w line Row = IsSomeAnd line (λ row. length row ≢ w)
IsWrongRow w line Char = IsSomeAnd line (λ row. (length row ≡ w) × (¬ IsTrue (is_row row)))
IsWrongRow w line _ = ⊥

-- a refusal of a row names its line and what is wrong there
abbrev pub RowFaultIs : {T : Type 0} → ℕ → Option (List ℕ) → ℕ → Result T MapError → Type 0
RowFaultIs w line number (Ok x) = Unit {0}
RowFaultIs w line number (Err (map_error.Fault f)) = (f.line ≡ number) × IsWrongRow w line f.kind
RowFaultIs w line number (Err map_error.Memory) = Unit {0}

-- a refusal of characters says that not all of them stand for cells
abbrev pub CharFaultIs : {T : Type 0} → List ℕ → ℕ → Result T MapError → Type 0
CharFaultIs row number (Ok x) = Unit {0}
CharFaultIs row number (Err (map_error.Fault f)) = (f.line ≡ number) × (f.kind ≡ Char) × (¬ IsTrue (is_row row))
CharFaultIs row number (Err map_error.Memory) = Unit {0}

-- line r below the header is the first that is no row of width w, though r is below h
pub record IsRowsFault (w h : ℕ) (lines : List (List ℕ)) (at : ℕ) (kind : MapKind) : Type 0 where
  pub place : ℕ
  pub counted : at ≡ 5 + place
  pub within : place < h
  pub above : HasRows w place lines
  pub here : IsWrongRow w (slice_get lines place) kind

-- a refusal of rows names the first that is wrong
abbrev pub RowsFaultIs : {T : Type 0} → ℕ → ℕ → List (List ℕ) → Result T MapError → Type 0
RowsFaultIs w h lines (Ok x) = Unit {0}
RowsFaultIs w h lines (Err (map_error.Fault f)) = IsRowsFault w h lines f.line f.kind
RowsFaultIs w h lines (Err map_error.Memory) = Unit {0}

-- none of these lines has a character
abbrev pub AreBlank : List (List ℕ) → Type 0
AreBlank lines = (r : ℕ) → IfSome (slice_get lines r) (λ line. line ≡ [])

-- below so many lines, line r is the first that is not empty
pub record IsBlankFault (above : ℕ) (lines : List (List ℕ)) (at : ℕ) (kind : MapKind) : Type 0 where
  pub place : ℕ
  pub counted : at ≡ above + place + 1
  pub blank : (r : ℕ) → r < place → IfSome (slice_get lines r) (λ line. line ≡ [])
  pub here : IsSomeAnd (slice_get lines place) (λ line. line ≢ [])
  pub more : kind ≡ More
