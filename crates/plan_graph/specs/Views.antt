-- What a view of a graph and the room for a ranking stand for.
use Rattle.std.specs.Prelude.{ℕ, ◌≡◌, List, [], replicate, length, slice_index_or, Option, None}
use Rattle.fleet_base.specs.declared.geometry.Visit.{Visit}
use Rattle.fleet_base.specs.declared.order.PairId.{PairId}
use Rattle.fleet_base.specs.declared.order.Side.{Side}
use Rattle.fleet_base.specs.Order.{Graph}
use Rattle.plan_graph.specs.Limits.{visit_count}

-- a graph with a side, or none, for each pair
pub record OrientedGraph : Type 0 where
  pub graph : Graph
  pub sides : List (Option Side)

-- the order that a view gives
abbrev pub order_in : OrientedGraph → ℕ → Option Side
order_in view q = slice_index_or view.sides q None

-- no side for any pair
abbrev pub undecided : Graph → List (Option Side)
undecided g = replicate (length g.pairs) None

-- what a ranking writes, an order of the visits or a cycle, and how many robots and visits it has room for
pub record Ranking : Type 0 where
  pub order : List Visit
  pub cycle : List PairId
  pub robots : ℕ
  pub visits : ℕ

-- a room that was made for a graph, and holds nothing yet
abbrev pub empty_ranking : Graph → Ranking
empty_ranking g = record { order = []; cycle = []; robots = length g.lasts; visits = visit_count g }

-- it was made for a graph with as many robots and visits
pub record IsRankingFor (g : Graph) (room : Ranking) : Type 0 where
  pub as_many_robots : room.robots ≡ length g.lasts
  pub as_many_visits : room.visits ≡ visit_count g
