-- What a least schedule costs, and that least schedules and costs are one.
use Rattle.std.proofs.Common.{ℕ, suc, zero, ◌≡◌, ◌+◌, ◌-◌, ◌<◌, ◌≤◌, refl, arith, length}
use Rattle.std.specs.Prelude.{Option, sum_by}
use Rattle.std.specs.List.{range_with_len}
use Rattle.std.proofs.lemmas.List.Sums.{sum_by-cons}
use Rattle.fleet_base.specs.declared.geometry.Visit.{Visit}
use Rattle.fleet_base.specs.declared.order.Side.{Side}
use Rattle.fleet_base.specs.Order.{Graph, IsVisit, last_in}
use Rattle.fleet_base.specs.State.{FleetState}
use Rattle.fleet_base.specs.Schedule.{IsLeastSchedule, IsCost, end_sum_of}

abbrev visit : ℕ → ℕ → Visit
visit i k = record { robot = i; index = k }

-- a sum over a range of numbers is no more than another that is no less at each
pub range_sum : (f h : ℕ → ℕ) (n a : ℕ) → ((k : ℕ) → a ≤ k → k < a + n → f k ≤ h k) → sum_by f (range_with_len a n) ≤ sum_by h (range_with_len a n)
range_sum f h zero a each = omega arith
range_sum f h (suc n) a each =
    let first = each a (omega arith) (omega arith) in
    let rest = range_sum f h n (a + 1) (λ k low high. each k (omega arith) (omega arith)) in
    let left = sum_by-cons f a (range_with_len (a + 1) n) in
    let right = sum_by-cons h a (range_with_len (a + 1) n) in
    omega arith

-- a schedule that is at most another one at each visit ends no later
pub sum_le : (g : Graph) (s t : Visit → ℕ) → ((v : Visit) → IsVisit g v → s v ≤ t v) → end_sum_of g s ≤ end_sum_of g t
sum_le g s t each = range_sum (λ i. s (visit i (last_in g i))) (λ i. t (visit i (last_in g i))) (length g.lasts - 0) 0 (λ i low high. each (visit i (last_in g i)) (record { robot = omega arith; index = omega arith }))

-- the sum of a least schedule is the cost
pub cost_of_least : (g : Graph) (x : FleetState) (order : ℕ → Option Side) (s : Visit → ℕ) → IsLeastSchedule g x order s → IsCost g x order (end_sum_of g s)
cost_of_least g x order s least = record { best = s; schedule = least.schedule; obeys = least.obeys; sum = refl; least = λ t schedule obeys. sum_le g s t (least.least t schedule obeys) }

-- two least schedules agree, and so do two costs
pub one_least : (g : Graph) (x : FleetState) (order : ℕ → Option Side) (s t : Visit → ℕ) → IsLeastSchedule g x order s → IsLeastSchedule g x order t → (v : Visit) → IsVisit g v → s v ≡ t v
one_least g x order s t a b v is = let p = a.least t b.schedule b.obeys v is in let q = b.least s a.schedule a.obeys v is in omega arith

pub one_cost : (g : Graph) (x : FleetState) (order : ℕ → Option Side) (c d : ℕ) → IsCost g x order c → IsCost g x order d → c ≡ d
one_cost g x order c d a b = let p = a.least b.best b.schedule b.obeys in let q = b.least a.best a.schedule a.obeys in omega (arith, a.sum, b.sum)
