-- What a stop leaves while one side is cleared, or gets a header.
use Rattle.std.specs.Prelude.{◌≡◌, ◌≢◌, ◌⊎◌, ℕ, ◌≤◌, List, [], ◌∷◌, length, take}
use Rattle.journal_frame.specs.Frames.{IsBlank}
use Rattle.fleet_journal.specs.Sides.{IsClean}

-- its header gate is closed
abbrev pub IsShut : List ℕ → Type 0
IsShut [] = Unit {0}
IsShut (byte ∷ rest) = byte ≡ 0

-- with its header gate closed
abbrev pub shut_of : List ℕ → List ℕ
shut_of [] = []
shut_of (byte ∷ rest) = 0 ∷ rest

-- new is old, or differs in an open header gate alone
abbrev pub IsSameButGate : List ℕ → List ℕ → Type 0
IsSameButGate old new = (gate : ℕ) × (other : ℕ) × (rest : List ℕ) × (gate ≢ 0) × (old ≡ gate ∷ rest) × (new ≡ other ∷ rest)

-- the side is as it was, or blank, or differs in its open header gate alone
abbrev pub IsCleared : List ℕ → List ℕ → Type 0
IsCleared old new = (new ≡ old) ⊎ (IsBlank new ⊎ IsSameButGate old new)

-- its header gate is closed now
abbrev pub Shuts : List ℕ → List ℕ → Type 0
Shuts old new = new ≡ shut_of old

-- the side is cut to this length, if it was longer
abbrev pub IsCut : ℕ → List ℕ → List ℕ → Type 0
IsCut n old new = new ≡ take n old

-- the side is clean now
abbrev pub Clears : List ℕ → List ℕ → Type 0
Clears old new = IsClean new

-- The side has at most one byte now, by what clearing may leave; one of at most one byte is left as it was.
pub record ClearsLong (old new : List ℕ) : Type 0 where
  pub short : length new ≤ 1
  pub cleared : IsCleared old new
  pub stays : length old ≤ 1 → new ≡ old

-- the side is one closed gate
abbrev pub HasGate : List ℕ → List ℕ → Type 0
HasGate old new = new ≡ 0 ∷ []

-- the side is this text behind an open gate
abbrev pub HasText : List ℕ → List ℕ → List ℕ → Type 0
HasText text old new = new ≡ 1 ∷ text

-- the side is blank, or has this text behind an open gate
abbrev pub GetsText : List ℕ → List ℕ → List ℕ → Type 0
GetsText text old bytes = IsBlank bytes ⊎ ((gate : ℕ) × (gate ≢ 0) × (bytes ≡ gate ∷ text))
