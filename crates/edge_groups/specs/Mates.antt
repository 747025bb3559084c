-- What a table of groups tells: the mates of each pair.
use Rattle.std.specs.Prelude.{ℕ, ◌≡◌, ◌<◌, List, length, slice_get, false, Option, Some, Contains}
use Rattle.fleet_base.specs.declared.order.PairId.{PairId}
use Rattle.fleet_base.specs.declared.order.Side.{Side}
use Rattle.fleet_base.specs.Lists.{row_of}
use Rattle.fleet_base.specs.Order.{Graph, order_of}
use Rattle.fleet_base.specs.State.{FleetState}
use Rattle.fleet_base.specs.Open.{is_open}
use Rattle.fleet_base.specs.Groups.{AreMates}

-- each number is greater than those before it
abbrev pub AreAscending : List PairId → Type 0
AreAscending list = (j k : ℕ) (q r : PairId) → slice_get list j ≡ Some q → slice_get list k ≡ Some r → j < k → q.0 < r.0

-- the list is that of a pair's mates: it has each of them and nothing else, ascending
pub record AreMatesOf (g : Graph) (q : ℕ) (list : List PairId) : Type 0 where
  pub mates : (r : PairId) → Contains list r → AreMates g q r.0
  pub each : (r : PairId) → AreMates g q r.0 → Contains list r
  pub ascending : AreAscending list

-- these are the mates of all pairs, a list for each pair
pub record AreAllMates (g : Graph) (rows : List (List PairId)) : Type 0 where
  pub count : length rows ≡ length g.pairs
  pub lists : (q : ℕ) → q < length g.pairs → AreMatesOf g q (row_of rows q)
