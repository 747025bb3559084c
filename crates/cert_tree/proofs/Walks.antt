-- Sums with one more number, how long the moves along a robot last, and where edges begin.
use Rattle.std.proofs.Common.{ℕ, suc, zero, ◌≡◌, ◌+◌, ◌-◌, ◌≤◌, [], Option, true, false, Bool, refl, sym, ap, subst, arith}
use Rattle.std.specs.Prelude.{sum_by}
use Rattle.std.specs.List.{range_with_len}
use Rattle.std.proofs.lemmas.List.Sums.{sum_by-cons}
use Rattle.fleet_base.specs.declared.geometry.Visit.{Visit}
use Rattle.fleet_base.specs.declared.order.Side.{Side}
use Rattle.fleet_base.specs.Order.{Graph, IsVisit, HasEdge}
use Rattle.fleet_base.specs.State.{FleetState, duration_of}
use Rattle.fleet_base.specs.Open.{is_open, KeepsClosed}
use Rattle.fleet_base.specs.Rules.{IsFleetState}
use Rattle.fleet_base.specs.Paths.{travel}
use Rattle.fleet_base.proofs.OpenPairs.{open_goes_on}
use Rattle.cert_tree.proofs.EdgeLaws.{visit}
use Rattle.cert_tree.proofs.Lawful.{edge_of_state}

-- one more number at the end of a range
pub sum_more : (f : ℕ → ℕ) (n a : ℕ) → sum_by f (range_with_len a (suc n)) ≡ sum_by f (range_with_len a n) + f (a + n)
sum_more f zero a = let s = sum_by-cons f a [] in let e = ap f (let z : a ≡ a + 0 = omega arith in z) in omega arith
sum_more f (suc n) a =
    let s = sum_by-cons f a (range_with_len (a + 1) (suc n)) in
    let t = sum_by-cons f a (range_with_len (a + 1) n) in
    let h = sum_more f n (a + 1) in
    let e = ap f (let z : a + 1 + n ≡ a + suc n = omega arith in z) in
    omega arith

-- and one more move along a robot
pub travel_more : (x : FleetState) (v : Visit) (k : ℕ) → v.index ≤ k → travel x v (k + 1) ≡ travel x v k + duration_of x (visit v.robot (k + 1))
travel_more x v k le =
    let long = ap (λ m. sum_by (λ r. duration_of x (visit v.robot r)) (range_with_len (v.index + 1) m)) (let z : (k + 1 + 1) - (v.index + 1) ≡ suc (k - v.index) = omega arith in z) in
    let short = ap (λ m. sum_by (λ r. duration_of x (visit v.robot r)) (range_with_len (v.index + 1) m)) (let z : (k + 1) - (v.index + 1) ≡ k - v.index = omega arith in z) in
    let h = sum_more (λ r. duration_of x (visit v.robot r)) (k - v.index) (v.index + 1) in
    let e = ap (λ r. duration_of x (visit v.robot r)) (let z : v.index + 1 + (k - v.index) ≡ k + 1 = omega arith in z) in
    omega arith

-- an order that keeps the closed pairs puts no robot first at its last visit
pub tail_there : (g : Graph) (x : FleetState) (state : IsFleetState g x) (order : ℕ → Option Side) → KeepsClosed g x order → (q : ℕ) (u v : Visit) → HasEdge g order q u v → IsVisit g u
tail_there g x state order keeps q u v e = go (is_open g x q) refl
  where
    go : (b : Bool) → is_open g x q ≡ b → IsVisit g u
    go true o = subst (λ (w : Visit). IsVisit g w) (sym e.tail) (open_goes_on g x q e.pair e.side state.fleet.graph e.listed o)
    go false o = state.order.follows q u v (edge_of_state g x state order keeps q u v e o)

-- a sum over the numbers from 0 on, with one more
pub sum_next : (f : ℕ → ℕ) (n a b tick : ℕ) → a ≡ sum_by f (range_with_len 0 n) → tick ≡ f n → b ≡ a + tick → b ≡ sum_by f (range_with_len 0 (n + 1))
sum_next f n a b tick h t e =
    let more = sum_more f n 0 in
    let place = ap f (let z : 0 + n ≡ n = omega arith in z) in
    let len = ap (λ m. sum_by f (range_with_len 0 m)) (let z : n + 1 ≡ suc n = omega arith in z) in
    omega (arith, h, t, e, more, place, len)
