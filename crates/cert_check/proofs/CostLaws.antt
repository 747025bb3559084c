-- What the sides of an order give, and how large the cost of an order can be.
use Rattle.std.proofs.Common.{ℕ, suc, zero, ◌≡◌, ◌+◌, ◌-◌, ◌*◌, ◌^◌, ◌<◌, ◌≤◌, List, Option, true, false, Bool, cond, refl, sym, ap, ◌∙◌, subst, arith, length}
use Rattle.std.specs.Prelude.{sum_by}
use Rattle.std.specs.List.{range_with_len}
use Rattle.fleet_base.specs.declared.geometry.Visit.{Visit}
use Rattle.fleet_base.specs.declared.order.Side.{Side}
use Rattle.fleet_base.specs.Order.{Graph, IsVisit, IsSorted, order_of, last_in}
use Rattle.fleet_base.specs.State.{FleetState}
use Rattle.fleet_base.specs.Open.{is_open, KeepsClosed}
use Rattle.fleet_base.specs.Rules.{IsFleetState}
use Rattle.fleet_base.specs.Schedule.{IsLeastSchedule, IsCost, end_sum_of}
use Rattle.fleet_base.proofs.Costs.{cost_of_least}
use Rattle.plan_graph.specs.Limits.{visit_count, IsGraphWithinLimits}
use Rattle.cert_tree.proofs.EdgeLaws.{visit}
use Rattle.cert_tree.proofs.Walks.{sum_more}
use Rattle.cert_check.specs.Rounds.{rounds}
use Rattle.cert_check.specs.Sides.{decided, order_by}
use Rattle.cert_check.proofs.Least.{rounds_are_enough}
use Rattle.cert_check.proofs.RoundLaws.{raised_bound}
use Rattle.cert_check.proofs.SideLaws.{open_within}

module _ (x : FleetState) (sides : List (Option Side)) (order : ℕ → Option Side) where
  -- sides that are those of an order give this order, if it leaves the closed pairs their sides
  order_taken : (g : Graph) → KeepsClosed g x order → ((q : ℕ) → q < length g.pairs → decided sides q ≡ order q) → order_by g x sides ≡ order
  order_taken g closed taken = λ j q. at q (is_open g x q) refl j
    where
      at : (q : ℕ) (b : Bool) → is_open g x q ≡ b → order_by g x sides q ≡ order q
      at q true o = ap (λ b. cond b (decided sides q) (order_of x.sides q)) o ∙ taken q (open_within g x q o)
      at q false o = ap (λ b. cond b (decided sides q) (order_of x.sides q)) o ∙ sym (closed q o)

  -- so what holds by the sides holds of the order
  pub at_order : (P : Graph → (ℕ → Option Side) → Type 0) (h g : Graph) → h ≡ g → KeepsClosed g x order → ((q : ℕ) → q < length g.pairs → decided sides q ≡ order q) → P h (order_by h x sides) → P g order
  at_order P h g e closed taken p = subst (λ o. P g o) (order_taken g closed taken) (subst (λ (f : Graph). P f (order_by f x sides)) e p)

-- a sum of so many numbers that are no greater than one
sum_below : (f : ℕ → ℕ) (b n : ℕ) → ((i : ℕ) → i < n → f i ≤ b) → sum_by f (range_with_len 0 n) ≤ n * b
sum_below f b zero each = omega arith
sum_below f b (suc n) each =
    let h = sum_below f b n (λ i lt. each i (omega (arith, lt))) in
    let more = sum_more f n 0 in
    let last = each (0 + n) (omega arith) in
    let product : suc n * b ≡ n * b + b = grind arith in
    omega arith

module _ (g : Graph) (x : FleetState) (order : ℕ → Option Side) (state : IsFleetState g x) where
  rounds_below : (n : ℕ) (v : Visit) → rounds g x order n v ≤ 2000000000000 + n * 1000001
  rounds_below zero v = omega arith
  rounds_below (suc n) v =
      let h = raised_bound g x order state (rounds g x order n) (2000000000000 + n * 1000001) (λ u. rounds_below n u) v (omega arith) in
      omega (arith, h)

  -- no tick of a least schedule is far away, and the cost of the order fits
  pub cost_is_small : IsGraphWithinLimits g → KeepsClosed g x order → (list : List Visit) → IsSorted g order list → (s : Visit → ℕ) → IsLeastSchedule g x order s → end_sum_of g s < 2 ^ 64
  cost_is_small limits closed list sorted s least =
      let all : sum_by (λ i. s (visit i (last_in g i))) (range_with_len 0 (length g.lasts)) ≤ length g.lasts * 2065536065536 = sum_below (λ i. s (visit i (last_in g i))) 2065536065536 (length g.lasts) each in
      let same = ap (λ n. sum_by (λ i. s (visit i (last_in g i))) (range_with_len 0 n)) (let z : length g.lasts - 0 ≡ length g.lasts = omega arith in z) in
      omega (arith, all, same, limits.robots.1)
    where
      each : (i : ℕ) → i < length g.lasts → s (visit i (last_in g i)) ≤ 2065536065536
      each i lt =
          let r = rounds_are_enough g x order list state closed sorted in
          let v = visit i (last_in g i) in
          let is : IsVisit g v = record { robot = lt; index = omega arith } in
          omega (arith, least.least (rounds g x order (visit_count g)) r.schedule r.obeys v is, rounds_below (visit_count g) v, limits.visits)

pub cost_is : (g : Graph) (x : FleetState) (order : ℕ → Option Side) (s : Visit → ℕ) (sum : ℕ) → IsLeastSchedule g x order s → sum ≡ end_sum_of g s → IsCost g x order sum
cost_is g x order s sum least e = subst (λ n. IsCost g x order n) (sym e) (cost_of_least g x order s least)
