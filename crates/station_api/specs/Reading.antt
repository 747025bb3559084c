-- What a read of a source takes, and what a shelf answers.
use Rattle.std.specs.Prelude.{◌≡◌, ℕ, ◌<◌, ◌≤◌, List, ◌++◌, length, take, drop, Vec, Option, Some, None, Result, Ok, Err}
use Rattle.std.specs.declared.alloc.Global.{Global}
use Rattle.station_api.specs.declared.shelf.ShelfFault.{ShelfFault}
use Rattle.station_api.specs.declared.shelf.ShelfFault.TheVariants.{Missing, Failed, TooLong, Memory}

-- n bytes were taken from the front into the room, and none only at the end or into no room
pub record TakesFront (left later : List ℕ) (n : ℕ) (room filled : List ℕ) : Type 0 where
  pub within : n ≤ length left
  pub some : 0 < length room → 0 < length left → 0 < n
  pub bytes : filled ≡ take n left ++ drop n room
  pub rest : later ≡ drop n left

-- what a shelf answers for a file that it has or has not: its bytes, or how long they are
abbrev pub Fetches : Option (List ℕ) → Result (Vec ℕ Global) ShelfFault → Type 0
Fetches file (Ok bytes) = file ≡ Some bytes.items
Fetches file (Err (TooLong n)) = (bytes : List ℕ) × (file ≡ Some bytes) × (n ≡ length bytes)
Fetches file (Err Missing) = file ≡ None
Fetches file (Err Failed) = Unit {0}
Fetches file (Err Memory) = Unit {0}

-- the bytes are no more than the limit, and what is too long is longer than it
abbrev pub KeepsLimit : ℕ → Result (Vec ℕ Global) ShelfFault → Type 0
KeepsLimit limit (Ok bytes) = length bytes.items ≤ limit
KeepsLimit limit (Err (TooLong n)) = limit < n
KeepsLimit limit (Err Missing) = Unit {0}
KeepsLimit limit (Err Failed) = Unit {0}
KeepsLimit limit (Err Memory) = Unit {0}

-- the answers that count as faults
abbrev pub IsFault : Result (Vec ℕ Global) ShelfFault → Type 0
IsFault (Ok bytes) = ⊥
IsFault (Err (TooLong n)) = ⊥
IsFault (Err Missing) = Unit {0}
IsFault (Err Failed) = Unit {0}
IsFault (Err Memory) = ⊥
