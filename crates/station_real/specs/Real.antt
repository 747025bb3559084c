-- What is told of a real object: how often it has failed, and nothing of what it holds.
use Rattle.std.specs.Prelude.{◌≡◌, ℕ, false, List, [], ◌∷◌, Option, None, Some, Result, Ok, IsErr, MatchResult}
use Rattle.std.specs.Path.{path_parent}
use Rattle.station_api.specs.Causes.{Counts}
use Rattle.station_api.specs.Clock.{Clock}
use Rattle.station_api.specs.Replay.{scene, clock_of}

-- it may fail for any cause
abbrev pub real_counts : ℕ → Counts
real_counts faults = record { faults = faults; starved = 0; flawless = false }

-- some lawful clock, since nothing is told of a real one
abbrev pub untold_clock : Clock
untold_clock = clock_of (scene [] [] []) []

-- the same value, or a fault for an error
abbrev pub SameValue : {T E F : Type 0} → Result T E → Result T F → Type 0
SameValue {T} answer result = MatchResult answer (λ (x : T). result ≡ Ok x) (λ _. IsErr result)

-- what is told of a real source: how often it has failed, and how many bytes the last read took
pub record RealSourceState : Type 0 where
  pub faults : ℕ
  pub last : ℕ

-- this folder, or the one that the program runs in where there is no name
abbrev pub folder_or_here : Option (List ℕ) → List ℕ
folder_or_here None = 46 ∷ []
folder_or_here (Some []) = 46 ∷ []
folder_or_here (Some (byte ∷ rest)) = byte ∷ rest

-- the folder in which a file lies
abbrev pub folder_bytes : List ℕ → List ℕ
folder_bytes path = folder_or_here (path_parent path)
