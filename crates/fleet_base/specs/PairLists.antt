-- The numbers of the pairs in which each visit stands, kept beside the pairs.
use Rattle.std.specs.Prelude.{ℕ, ◌≡◌, ◌<◌, ◌≤◌, List, [], ◌∷◌, ◌++◌, map, replicate, length, slice_set}
use Rattle.fleet_base.specs.Limits.{pair_limit}
use Rattle.fleet_base.specs.declared.geometry.Visit.{Visit}
use Rattle.fleet_base.specs.declared.geometry.PlannedVisit.{PlannedVisit}
use Rattle.fleet_base.specs.declared.order.Pair.{Pair}
use Rattle.fleet_base.specs.declared.order.PairId.{PairId}
use Rattle.fleet_base.specs.Lists.{row_of}
use Rattle.fleet_base.specs.Plan.{AreRoutes}
use Rattle.fleet_base.specs.Pairs.{pairs_of, numbers_of}

-- these are the pairs of an accepted plan, and not too many
pub record ArePairs (pairs : List Pair) : Type 0 where
  pub routes : List (List PlannedVisit)
  pub plan : AreRoutes routes
  pub all : pairs ≡ pairs_of routes
  pub few : length pairs ≤ pair_limit

-- the list that is kept for a visit
abbrev pub numbers_at : List (List (List PairId)) → ℕ → ℕ → List PairId
numbers_at numbers i k = row_of (row_of numbers i) k

-- for each visit the numbers of its pairs are kept
abbrev pub AreNumbers : List (List (List PairId)) → List Pair → Type 0
AreNumbers numbers pairs = (i k : ℕ) → numbers_at numbers i k ≡ numbers_of pairs (record { robot = i; index = k })

-- no number for each visit of the routes
abbrev pub no_numbers : List (List PlannedVisit) → List (List (List PairId))
no_numbers routes = map (λ route. replicate (length route) []) routes

-- the visit has a list
abbrev pub HasList : List (List (List PairId)) → Visit → Type 0
HasList numbers v = (v.robot < length numbers) × (v.index < length (row_of numbers v.robot))

-- one number more for a visit
abbrev pub noted : List (List (List PairId)) → Visit → PairId → List (List (List PairId))
noted numbers v q = slice_set numbers v.robot (slice_set (row_of numbers v.robot) v.index (numbers_at numbers v.robot v.index ++ q ∷ []))
