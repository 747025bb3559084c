-- What stands outside at one moment: the two sides of the journal's disk, and what was sent.
use Rattle.std.specs.Prelude.{◌≡◌, ℕ, List, ◌++◌}
use Rattle.station_api.specs.declared.station.DiskSide.{DiskSide}
use Rattle.station_api.specs.declared.station.DiskSide.TheVariants.{A, B}

-- the bytes of side A, of side B, and those sent
pub record Scene : Type 0 where
  pub a : List ℕ
  pub b : List ℕ
  pub sent : List ℕ

-- the bytes of a side
abbrev pub side_of : DiskSide → Scene → List ℕ
side_of A scene = scene.a
side_of B scene = scene.b

-- the side that it is not
abbrev pub other_of : DiskSide → DiskSide
other_of A = B
other_of B = A

-- whole is front, with more behind it or nothing
abbrev pub Extends : List ℕ → List ℕ → Type 0
Extends front whole = (rest : List ℕ) × (whole ≡ front ++ rest)
