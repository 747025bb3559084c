-- What the ranks of a plan's pairs tell: the order of the pairs, and which of them are mates.
use Rattle.std.proofs.Common.{ℕ, ◌≡◌, ◌+◌, ◌-◌, ◌*◌, ◌<◌, ◌≤◌, ◌≢◌, ◌⊎◌, List, [], Some, None, Option, sym, ap, subst, inl, inr, arith, length, get_or}
use Rattle.std.specs.Prelude.{slice_get}
use Rattle.std.specs.Option.{option_map_or}
use Rattle.std.proofs.lemmas.Bool.{cases_lt, cases_eq}
use Rattle.std.proofs.lemmas.Option.{slice_get_cases}
use Rattle.std.proofs.lemmas.List.{get_or_past}
use Rattle.std.proofs.lemmas.List.Sums.{get_or-le-sum_by}
use Rattle.fleet_base.proofs.GraphLaws.{length-map, last_is}
use Rattle.fleet_base.specs.declared.geometry.PlannedVisit.{PlannedVisit}
use Rattle.fleet_base.specs.declared.order.Pair.{Pair}
use Rattle.fleet_base.specs.Lists.{row_of}
use Rattle.fleet_base.specs.Order.{Graph, graph_of}
use Rattle.fleet_base.specs.Groups.{AreMates, AreOneApart}
use Rattle.plan_graph.specs.Limits.{IsPlanGraph, IsGraphWithinLimits}
use Rattle.plan_graph.proofs.PlanGraphs.{plan_graph_is_graph, plan_graph_within_limits, index_within}
use Rattle.edge_groups.specs.Ranks.{rank_of, rank_in, IsBehind}
use Rattle.edge_groups.proofs.Ascending.{Ascends, ascends_at, pairs_ascend}

-- two numbers in two digits are one only if the digits are
digits : (a b y z : ℕ) → y < 131072 → z < 131072 → a * 131072 + y ≡ b * 131072 + z → (a ≡ b) × (y ≡ z)
digits a b y z low high e = (omega (arith, low, high, e), omega (arith, low, high, e))

robots_apart : (a b y z : ℕ) → y < 256 → z < 256 → a * 256 + y ≡ b * 256 + z → (a ≡ b) × (y ≡ z)
robots_apart a b y z low high e = (omega (arith, low, high, e), omega (arith, low, high, e))

-- what is known of a listed pair's numbers
pub record IsSmall (p : Pair) : Type 0 where
  pub lowest : p.lower.robot < 256
  pub robot : p.higher.robot < 256
  pub lower : p.lower.index < 65536
  pub higher : p.higher.index < 65536

-- the ranks of pairs with both visits one later, and with one later and one earlier
later : (a b : Pair) → IsSmall a → IsSmall b → rank_of b ≡ rank_of a + 131073
    → (a.lower.robot ≡ b.lower.robot) × (a.higher.robot ≡ b.higher.robot) × (b.lower.index ≡ a.lower.index + 1) × (b.higher.index ≡ a.higher.index + 1)
later a b sa sb e =
    let first = digits ((b.lower.robot * 256 + b.higher.robot) * 131072 + b.lower.index) ((a.lower.robot * 256 + a.higher.robot) * 131072 + (a.lower.index + 1)) b.higher.index (a.higher.index + 1)
    (omega (arith, sb.higher)) (omega (arith, sa.higher)) (omega (arith, e)) in
    let second = digits (b.lower.robot * 256 + b.higher.robot) (a.lower.robot * 256 + a.higher.robot) b.lower.index (a.lower.index + 1) (omega (arith, sb.lower)) (omega (arith, sa.lower)) first.0 in
    let third = robots_apart b.lower.robot a.lower.robot b.higher.robot a.higher.robot sb.robot sa.robot second.0 in (
      sym third.0,
      sym third.1,
      second.1,
      first.1,
    )

across : (a b : Pair) → IsSmall a → IsSmall b → rank_of b + 1 ≡ rank_of a + 131072
    → (a.lower.robot ≡ b.lower.robot) × (a.higher.robot ≡ b.higher.robot) × (b.lower.index ≡ a.lower.index + 1) × (a.higher.index ≡ b.higher.index + 1)
across a b sa sb e =
    let first = digits ((b.lower.robot * 256 + b.higher.robot) * 131072 + b.lower.index) ((a.lower.robot * 256 + a.higher.robot) * 131072 + (a.lower.index + 1)) (b.higher.index + 1) a.higher.index
    (omega (arith, sb.higher)) (omega (arith, sa.higher)) (omega (arith, e)) in
    let second = digits (b.lower.robot * 256 + b.higher.robot) (a.lower.robot * 256 + a.higher.robot) b.lower.index (a.lower.index + 1) (omega (arith, sb.lower)) (omega (arith, sa.lower)) first.0 in
    let third = robots_apart b.lower.robot a.lower.robot b.higher.robot a.higher.robot sb.robot sa.robot second.0 in (
      sym third.0,
      sym third.1,
      second.1,
      sym first.1,
    )

module _ (g : Graph) (plan : IsPlanGraph g) where
  pub small : (q : ℕ) (p : Pair) → slice_get g.pairs q ≡ Some p → IsSmall p
  small q p e =
      let graph = plan_graph_is_graph g plan in
      let within = plan_graph_within_limits g plan in
      record {
        lowest = omega (arith, (graph.lower q p e).robot, within.robots.1);
        robot = omega (arith, (graph.higher q p e).robot, within.robots.1);
        lower = index_within g within p.lower (graph.lower q p e);
        higher = index_within g within p.higher (graph.higher q p e);
      }

  pub rank_is : (q : ℕ) (p : Pair) → slice_get g.pairs q ≡ Some p → rank_in g q ≡ rank_of p
  rank_is q p e = ap (λ (o : Option Pair). option_map_or rank_of o 0) e

  -- what stands at a place within
  pair_at : (q : ℕ) → q < length g.pairs → (p : Pair) × (slice_get g.pairs q ≡ Some p)
  pair_at q lt = go (slice_get_cases g.pairs q).1
    where
      go : ((p : Pair) × (q < length g.pairs) × (slice_get g.pairs q ≡ Some p) × (get_or g.pairs q p ≡ p)) ⊎ ((length g.pairs ≤ q) × (slice_get g.pairs q ≡ None)) → (p : Pair) × (slice_get g.pairs q ≡ Some p)
      go (inl a) = (a.0, a.2)
      go (inr b) = absurd (omega (arith, lt, b.0))

  -- a pair has a smaller rank than each one behind it
  pub ranks_ascend : (j k : ℕ) → j < k → k < length g.pairs → rank_in g j < rank_in g k
  ranks_ascend j k lt there =
      let a = pair_at j (omega (arith, lt, there)) in
      let b = pair_at k there in
      omega (arith, rank_is j a.0 a.1, rank_is k b.0 b.1, ascends_at rank_of g.pairs ascends j k a.0 b.0 a.1 b.1 lt)
    where
      within : IsGraphWithinLimits (graph_of plan.routes)
      within = subst (λ (h : Graph). IsGraphWithinLimits h) plan.plan (plan_graph_within_limits g plan)

      few : length plan.routes ≤ 256
      few = omega (arith, within.robots.1, length-map (λ (route : List PlannedVisit). length route - 1) plan.routes)

      route_short : (i : ℕ) → length (row_of plan.routes i) ≤ 65536
      route_short i = either (cases_lt i (length plan.routes))
        where
          either : (i < length plan.routes) ⊎ (length plan.routes ≤ i) → length (row_of plan.routes i) ≤ 65536
          either (inl there) =
              let here : i < length (graph_of plan.routes).lasts = omega (arith, there, length-map (λ (route : List PlannedVisit). length route - 1) plan.routes) in
              omega (arith, last_is plan.routes i there, within.visits, get_or-le-sum_by (λ (last : ℕ). last + 1) (graph_of plan.routes).lasts i 0 here)
          either (inr past) = omega (arith, ap length (get_or_past plan.routes i [] past))

      ascends : Ascends rank_of g.pairs
      ascends = subst (λ (h : Graph). Ascends rank_of h.pairs) (sym plan.plan) (pairs_ascend plan.routes few route_short)

  -- so the pair with the smaller rank stands in front
  pub ranked_below : (j k : ℕ) → j < length g.pairs → rank_in g j < rank_in g k → j < k
  ranked_below j k there lt = go (cases_lt k j) (cases_eq k j)
    where
      go : (k < j) ⊎ (j ≤ k) → (k ≡ j) ⊎ (k ≢ j) → j < k
      go (inl below) e = absurd (omega (arith, lt, ranks_ascend k j below there))
      go (inr above) (inl same) = absurd (omega (arith, lt, ap (rank_in g) same))
      go (inr above) (inr ne) = omega (arith, above, ne)

  -- where the first pair that reaches a rank goes past it, no pair has it
  pub none_reached : (at raise wanted : ℕ) → IsBehind g at raise wanted → (at < length g.pairs → wanted ≤ rank_in g at + raise) → (at < length g.pairs → rank_in g at + raise ≡ wanted → ⊥)
      → (r : ℕ) → r < length g.pairs → rank_in g r + raise ≡ wanted → ⊥
  none_reached at raise wanted behind reached past r there e = go (cases_lt r at) (cases_eq r at)
    where
      go : (r < at) ⊎ (at ≤ r) → (r ≡ at) ⊎ (r ≢ at) → ⊥
      go (inl less) s = omega (arith, behind.less r less, e)
      go (inr more) (inl same) = past (omega (arith, there, same)) (omega (arith, ap (rank_in g) same, e))
      go (inr more) (inr other) =
          let lt : at < r = omega (arith, more, other) in
          omega (arith, ranks_ascend at r lt there, reached (omega (arith, lt, there)), e)

  -- the ranks of mates differ by a visit of the lower robot and one of the higher
  abbrev pub AreApart : ℕ → ℕ → Type 0
  AreApart q r = (rank_in g r + 131073 ≡ rank_in g q) ⊎ (rank_in g r + 131071 ≡ rank_in g q) ⊎ (rank_in g r ≡ rank_in g q + 131071) ⊎ (rank_in g r ≡ rank_in g q + 131073)

  pub mates_apart : (q r : ℕ) → AreMates g q r → AreApart q r
  mates_apart q r m = go m.lower_visits m.higher_visits
    where
      eq : rank_in g q ≡ rank_of m.one
      eq = rank_is q m.one m.one_listed

      er : rank_in g r ≡ rank_of m.two
      er = rank_is r m.two m.two_listed

      go : AreOneApart m.one.lower.index m.two.lower.index → AreOneApart m.one.higher.index m.two.higher.index → AreApart q r
      go (inl k) (inl n) = inr (inr (inr (omega (arith, eq, er, m.lower_robot, m.higher_robot, k, n))))
      go (inl k) (inr n) = inr (inr (inl (omega (arith, eq, er, m.lower_robot, m.higher_robot, k, n))))
      go (inr k) (inl n) = inr (inl (omega (arith, eq, er, m.lower_robot, m.higher_robot, k, n)))
      go (inr k) (inr n) = inl (omega (arith, eq, er, m.lower_robot, m.higher_robot, k, n))

  pub apart_mates : (q r : ℕ) → q < length g.pairs → r < length g.pairs → AreApart q r → AreMates g q r
  apart_mates q r in_q in_r apart = go apart
    where
      a : (p : Pair) × (slice_get g.pairs q ≡ Some p)
      a = pair_at q in_q

      b : (p : Pair) × (slice_get g.pairs r ≡ Some p)
      b = pair_at r in_r

      eq : rank_in g q ≡ rank_of a.0
      eq = rank_is q a.0 a.1

      er : rank_in g r ≡ rank_of b.0
      er = rank_is r b.0 b.1

      sa : IsSmall a.0
      sa = small q a.0 a.1

      sb : IsSmall b.0
      sb = small r b.0 b.1

      go : AreApart q r → AreMates g q r
      go (inl e) =
          let d = later b.0 a.0 sb sa (omega (arith, eq, er, e)) in
          record { one = a.0; two = b.0; one_listed = a.1; two_listed = b.1; lower_robot = sym d.0; higher_robot = sym d.1; lower_visits = inr d.2; higher_visits = inr d.3 }
      go (inr (inl e)) =
          let d = across b.0 a.0 sb sa (omega (arith, eq, er, e)) in
          record { one = a.0; two = b.0; one_listed = a.1; two_listed = b.1; lower_robot = sym d.0; higher_robot = sym d.1; lower_visits = inr d.2; higher_visits = inl d.3 }
      go (inr (inr (inl e))) =
          let d = across a.0 b.0 sa sb (omega (arith, eq, er, e)) in
          record { one = a.0; two = b.0; one_listed = a.1; two_listed = b.1; lower_robot = d.0; higher_robot = d.1; lower_visits = inl d.2; higher_visits = inr d.3 }
      go (inr (inr (inr e))) =
          let d = later a.0 b.0 sa sb (omega (arith, eq, er, e)) in
          record { one = a.0; two = b.0; one_listed = a.1; two_listed = b.1; lower_robot = d.0; higher_robot = d.1; lower_visits = inl d.2; higher_visits = inl d.3 }
