-- What a call does to bytes that an object tells, or does not.
use Rattle.std.specs.Prelude.{ℕ, ◌≡◌, List, [], ◌++◌, take}

-- bytes before a call and after it, and that the object tells them
pub record Told : Type 1 where
  pub tells : Type 0
  pub before : List ℕ
  pub now : List ℕ

-- these bytes before and after
abbrev pub told : Type 0 → List ℕ → List ℕ → Told
told tells before now = record { tells = tells; before = before; now = now }

-- these bytes were sent, behind all that was sent before
abbrev pub Sends : Told → List ℕ → Type 0
Sends line bytes = line.tells → line.now ≡ line.before ++ bytes

-- these bytes were sent, and some front of more
abbrev pub SendsPart : Told → List ℕ → List ℕ → Type 0
SendsPart line bytes more = line.tells → (n : ℕ) × (line.now ≡ line.before ++ (bytes ++ take n more))

-- these bytes were taken, from the front of what was left
abbrev pub Takes : Told → List ℕ → Type 0
Takes input bytes = input.tells → input.before ≡ bytes ++ input.now

-- nothing is left
abbrev pub IsAtEnd : Told → Type 0
IsAtEnd input = input.tells → input.now ≡ []
