-- Where a journal stands on its side, and what it has there.
use Rattle.std.specs.Prelude.{◌≡◌, ◌≢◌, ℕ, List, [], ◌∷◌, ◌++◌, length, drop}
use Rattle.std.specs.List.{AllByRecursion}
use Rattle.station_api.specs.Scene.{Scene, side_of, other_of}
use Rattle.journal_frame.specs.declared.header.HeaderParts.{HeaderParts}
use Rattle.journal_frame.specs.Texts.{Fits}
use Rattle.journal_frame.specs.Headers.{IsHeader}
use Rattle.journal_frame.specs.Frames.{front, frame_text}
use Rattle.fleet_journal.specs.Sides.{IsBeside, Keeps}
use Rattle.fleet_journal.specs.Standing.{Standing}

-- what a text is that one write puts for this header
abbrev pub IsHeaderText : List ℕ → HeaderParts → Type 0
IsHeaderText text header = (payload : List ℕ) × IsHeader payload header × (text ≡ frame_text payload)

-- The side begins with this header and these entries, behind open gates, and then there is a gate.
pub record BeginsWith (bytes header : List ℕ) (entries : List (List ℕ)) : Type 0 where
  pub gate : ℕ
  pub next : ℕ
  pub rest : List ℕ
  pub is_open : gate ≢ 0
  pub bytes_are : bytes ≡ front gate header entries ++ next ∷ rest
  pub header_fits : Fits header
  pub entries_fit : AllByRecursion Fits entries

-- The journal is on the side taken, which has this header, and stands behind these entries, which were read.
pub record HasRead (journal : Standing) (header : HeaderParts) (entries : List (List ℕ)) (scene : Scene) : Type 0 where
  pub payload : List ℕ
  pub is_header : IsHeader payload header
  pub begins : BeginsWith (side_of journal.side scene) payload entries
  pub beside : IsBeside journal.side header.generation (side_of (other_of journal.side) scene)
  pub place : journal.place ≡ length (front begins.gate payload entries)
  pub passed : journal.passed ≡ length entries

-- The journal is on the side taken, which has this header and these entries, and stands at its closed gate.
pub record Stands (journal : Standing) (header : HeaderParts) (entries : List (List ℕ)) (scene : Scene) : Type 0 where
  pub keeps : Keeps journal.side header entries scene
  pub place : journal.place ≡ length (front keeps.has.gate keeps.payload entries)
  pub passed : journal.passed ≡ length entries

-- the journal's side ends at its gate, which is 0
abbrev pub EndsShut : Standing → Scene → Type 0
EndsShut journal scene = drop journal.place (side_of journal.side scene) ≡ 0 ∷ []
