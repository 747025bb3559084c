-- Releases that are made one by one.
use Rattle.std.specs.Prelude.{ℕ, ◌<◌, ◌≤◌, List, [], ◌∷◌, ◌++◌, length, slice_index, slice_set}
use Rattle.fleet_base.specs.declared.geometry.Visit.{Visit}
use Rattle.fleet_base.specs.Lists.{row_of}

-- the rows of ticks after each of these visits got this one, in turn
abbrev pub pushed : List (List ℕ) → List Visit → ℕ → List (List ℕ)
pushed rows [] tick = rows
pushed rows (v ∷ vs) tick = pushed (slice_set rows v.robot (row_of rows v.robot ++ tick ∷ [])) vs tick

-- at its turn each finds a robot with a visit that has no tick yet
abbrev pub HaveRoom : List ℕ → List (List ℕ) → List Visit → ℕ → Type 0
HaveRoom lasts rows [] tick = Unit {0}
HaveRoom lasts rows (v ∷ vs) tick =
    (v.robot < length lasts) × (length (row_of rows v.robot) ≤ slice_index lasts v.robot) × HaveRoom lasts (slice_set rows v.robot (row_of rows v.robot ++ tick ∷ [])) vs tick
