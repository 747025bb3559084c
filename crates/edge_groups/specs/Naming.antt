-- How far the naming of groups has come.
use Rattle.std.specs.Prelude.{ℕ, ◌≡◌, ◌≢◌, ◌⊎◌, ◌<◌, ◌≤◌, ◌==◌, List, length, slice_index, sum_by, if◌then◌else◌, slice_get, Some, Contains}
use Rattle.fleet_base.specs.declared.order.PairId.{PairId}
use Rattle.edge_groups.specs.Names.{IsBeside, AreJoined}

-- a number has a name
abbrev pub IsNamed : List ℕ → ℕ → Type 0
IsNamed names q = (q < length names) × (slice_index names q ≢ 4294967295)

-- how many have none
abbrev pub unnamed_in : List ℕ → ℕ
unnamed_in names = sum_by (λ n. if n == 4294967295 then 1 else 0) names

-- whoever has a name is joined with it and has no smaller number, and is pending or has the name of all that is beside it
pub record IsNaming (rows : List (List PairId)) (names pending : List ℕ) (upto : ℕ) : Type 0 where
  pub count : length names ≡ length rows
  pub joined : (q : ℕ) → IsNamed names q → AreJoined rows q (slice_index names q) × (slice_index names q ≤ q)
  pub closed : (q r : ℕ) → IsNamed names q → IsBeside rows q r → Contains pending q ⊎ (slice_index names r ≡ slice_index names q)
  pub below : (q : ℕ) → q < upto → IsNamed names q

-- all that is pending has this name
abbrev pub AreNamed : List ℕ → List ℕ → ℕ → Type 0
AreNamed names pending name = (q : ℕ) → Contains pending q → IsNamed names q × (slice_index names q ≡ name)

-- so have the first so many of these
abbrev pub AreFirstNamed : List ℕ → List PairId → ℕ → ℕ → Type 0
AreFirstNamed names mates count name = (k : ℕ) (r : PairId) → k < count → slice_get mates k ≡ Some r → slice_index names r.0 ≡ name
