-- The order in which pairs stand, as a number.
use Rattle.std.specs.Prelude.{ℕ, ◌≡◌, ◌+◌, ◌*◌, ◌<◌, ◌≤◌, length, slice_get, Option, MatchOption}
use Rattle.std.specs.Option.{option_map_or}
use Rattle.fleet_base.specs.declared.order.Pair.{Pair}
use Rattle.fleet_base.specs.declared.order.PairId.{PairId}
use Rattle.fleet_base.specs.Order.{Graph}
use Rattle.fleet_base.specs.Limits.{robot_limit, visit_limit}

-- pairs stand by the lower robot, the higher one, the lower robot's visit and the higher one's, and so do these numbers
abbrev pub rank_of : Pair → ℕ
rank_of p = ((p.lower.robot * robot_limit + p.higher.robot) * (2 * visit_limit) + p.lower.index) * (2 * visit_limit) + p.higher.index

-- the rank of a pair, by its number
abbrev pub rank_in : Graph → ℕ → ℕ
rank_in g q = option_map_or rank_of (slice_get g.pairs q) 0

-- no pair in front of a place, nor any reaches the wanted rank when raised
pub record IsBehind (g : Graph) (at raise wanted : ℕ) : Type 0 where
  pub within : at ≤ length g.pairs
  pub less : (r : ℕ) → r < at → rank_in g r + raise < wanted

-- the pair with the wanted rank, when raised, or none if there is none
abbrev pub IsReached : Graph → ℕ → ℕ → Option PairId → Type 0
IsReached g raise wanted found = MatchOption found ((r : ℕ) → r < length g.pairs → rank_in g r + raise ≡ wanted → ⊥) (λ q. (q.0 < length g.pairs) × (rank_in g q.0 + raise ≡ wanted))
