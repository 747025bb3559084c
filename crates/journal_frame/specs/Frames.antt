-- What the bytes of a side say: frames one after the other, each behind its gate, the first one a header and the others entries.
use Rattle.std.specs.Prelude.{ℕ, ◌≡◌, ◌≢◌, List, [], ◌∷◌, ◌++◌}
use Rattle.std.specs.List.{AllByRecursion}
use Rattle.journal_frame.specs.Texts.{sized, Fits}
use Rattle.journal_frame.specs.Entries.{IsEntryPayload}
use Rattle.journal_frame.specs.Headers.{IsHeaderPayload}

-- a frame without its gate: four bytes of length, and the payload
unfoldable pub framed : List ℕ → List ℕ
framed payload = sized payload

-- what one write puts: the frame without its gate, and a closed gate behind it
abbrev pub frame_text : List ℕ → List ℕ
frame_text payload = framed payload ++ 0 ∷ []

-- a whole frame at the front of the bytes: its gate, its length and payload, and the gate of the next frame
pub record HasFrame (bytes : List ℕ) (gate : ℕ) (payload : List ℕ) : Type 0 where
  pub next : ℕ
  pub rest : List ℕ
  pub fits : Fits payload
  pub bytes_are : bytes ≡ gate ∷ (framed payload ++ next ∷ rest)

-- a whole first frame behind a gate that is not 0, with a payload in the grammar of headers
pub record HasHeader (bytes payload : List ℕ) : Type 0 where
  pub gate : ℕ
  pub is_open : gate ≢ 0
  pub frame : HasFrame bytes gate payload
  pub grammar : IsHeaderPayload payload

-- a side with at most one byte, or whose header gate is closed
abbrev pub IsBlank : List ℕ → Type 0
IsBlank [] = Unit {0}
IsBlank (byte ∷ []) = Unit {0}
IsBlank (byte ∷ next ∷ rest) = byte ≡ 0

-- a side with a header, whatever stands behind it
abbrev pub IsLive : List ℕ → Type 0
IsLive bytes = (payload : List ℕ) × HasHeader bytes payload

-- any other side
abbrev pub IsForeign : List ℕ → Type 0
IsForeign bytes = ¬ IsBlank bytes × ¬ IsLive bytes

-- frames with open gates: those of entries are exactly 1
abbrev pub opened : List (List ℕ) → List ℕ
opened [] = []
opened (payload ∷ payloads) = 1 ∷ framed payload ++ opened payloads

-- a first frame, and then frames with open gates
abbrev pub front : ℕ → List ℕ → List (List ℕ) → List ℕ
front gate header entries = (gate ∷ framed header) ++ opened entries

-- The side has these frames: a first one behind an open gate, entries behind open gates, and then a closed gate. What lies behind that means nothing.
pub record HasEntries (bytes header : List ℕ) (entries : List (List ℕ)) : Type 0 where
  pub gate : ℕ
  pub closed : ℕ
  pub rest : List ℕ
  pub is_open : gate ≢ 0
  pub is_closed : closed ≢ 1
  pub bytes_are : bytes ≡ front gate header entries ++ closed ∷ rest
  pub header_fits : Fits header
  pub entries_fit : AllByRecursion Fits entries

-- from an entry gate on: it is open, and no whole frame in the grammar of entries stands there
pub record IsBadRecord (bytes : List ℕ) : Type 0 where
  pub behind : List ℕ
  pub is_open : bytes ≡ 1 ∷ behind
  pub no_entry : (payload : List ℕ) → IsEntryPayload payload → ¬ HasFrame bytes 1 payload
