-- The least number that each one is joined with, where lists say which numbers are beside which.
use Rattle.std.specs.Prelude.{ℕ, ◌≡◌, ◌⊎◌, ◌<◌, ◌≤◌, List, length, slice_index, Contains}
use Rattle.fleet_base.specs.declared.order.PairId.{PairId}
use Rattle.fleet_base.specs.Lists.{Chain, row_of}

-- the list of one number has the other
abbrev pub IsBeside : List (List PairId) → ℕ → ℕ → Type 0
IsBeside rows q r = Contains (row_of rows q) (record { 0 = r })

-- two numbers are one, or a chain of numbers that are beside each other joins them
abbrev pub AreJoined : List (List PairId) → ℕ → ℕ → Type 0
AreJoined rows q r = (q ≡ r) ⊎ ((between : List ℕ) × Chain (IsBeside rows) q between r)

-- each list has numbers that are there, and whatever is beside another has that one beside it
pub record AreMutual (rows : List (List PairId)) : Type 0 where
  pub there : (q r : ℕ) → IsBeside rows q r → r < length rows
  pub back : (q r : ℕ) → IsBeside rows q r → IsBeside rows r q

-- the least number that a number is joined with
pub record IsNameOf (rows : List (List PairId)) (q name : ℕ) : Type 0 where
  pub joined : AreJoined rows q name
  pub least : (r : ℕ) → AreJoined rows q r → name ≤ r

-- the names of all
pub record AreNames (rows : List (List PairId)) (names : List ℕ) : Type 0 where
  pub count : length names ≡ length rows
  pub each : (q : ℕ) → q < length rows → IsNameOf rows q (slice_index names q)
