-- What the two sides of a station mean together.
use Rattle.std.specs.Prelude.{◌≡◌, ◌⊎◌, ℕ, ◌<◌, ◌≤◌, List, [], ◌∷◌, ◌++◌}
use Rattle.station_api.specs.Scene.{Scene, side_of, other_of}
use Rattle.station_api.specs.declared.station.DiskSide.{DiskSide}
use Rattle.station_api.specs.declared.station.DiskSide.TheVariants.{A, B}
use Rattle.journal_frame.specs.declared.header.HeaderParts.{HeaderParts}
use Rattle.journal_frame.specs.Headers.{IsHeader}
use Rattle.journal_frame.specs.Frames.{HasHeader, HasEntries, IsBlank, IsLive, IsForeign}

-- Of two live sides the one with the higher generation is taken, and side A if they are equal.
abbrev pub IsTakenOver : DiskSide → ℕ → ℕ → Type 0
IsTakenOver A own other = other ≤ own
IsTakenOver B own other = other < own

-- a side of this generation is taken over every header that the other side has
abbrev pub IsBeside : DiskSide → ℕ → List ℕ → Type 0
IsBeside side own other = (payload : List ℕ) (header : HeaderParts) → HasHeader other payload → IsHeader payload header → IsTakenOver side own header.generation

-- The side has this header, and is the one taken.
pub record IsTaken (side : DiskSide) (header : HeaderParts) (scene : Scene) : Type 0 where
  pub payload : List ℕ
  pub is_header : IsHeader payload header
  pub has_header : HasHeader (side_of side scene) payload
  pub beside : IsBeside side header.generation (side_of (other_of side) scene)

-- The sides keep this header and these entries: the side has them, and is the one taken.
pub record Keeps (side : DiskSide) (header : HeaderParts) (entries : List (List ℕ)) (scene : Scene) : Type 0 where
  pub payload : List ℕ
  pub is_header : IsHeader payload header
  pub has : HasEntries (side_of side scene) payload entries
  pub beside : IsBeside side header.generation (side_of (other_of side) scene)

-- with one more entry or without it
abbrev pub KeepsOrAdds : DiskSide → HeaderParts → List (List ℕ) → List ℕ → Scene → Type 0
KeepsOrAdds side header entries payload scene = Keeps side header entries scene ⊎ Keeps side header (entries ++ payload ∷ []) scene

-- there is no journal yet: both sides are blank
pub record IsBlankJournal (scene : Scene) : Type 0 where
  pub a : IsBlank scene.a
  pub b : IsBlank scene.b

-- nothing yet, or a header on side A with no entry
abbrev pub BlankOrCreated : HeaderParts → Scene → Type 0
BlankOrCreated header scene = IsBlankJournal scene ⊎ Keeps A header [] scene

-- these are the sides of no journal: neither is live, and some side is foreign
pub record IsNoJournal (scene : Scene) : Type 0 where
  pub a : ¬ IsLive scene.a
  pub b : ¬ IsLive scene.b
  pub foreign : IsForeign scene.a ⊎ IsForeign scene.b

-- the side is empty or one closed gate
abbrev pub IsClean : List ℕ → Type 0
IsClean bytes = (bytes ≡ []) ⊎ (bytes ≡ 0 ∷ [])
