-- What the test of the order of pairs says.
use Rattle.std.proofs.Common.{◌≡◌, ℕ, ◌+◌, ◌<◌, ◌≤◌, ◌↔◌, Bool, true, false, ltb, List, map, length, get_or, IsTrue, refl, sym, arith}
use Rattle.std.specs.List.{IsAllAdjacentAnswer}
use Rattle.std.specs.List.Sorted.{IsStrictlyIncreasing}
use Rattle.std.proofs.lemmas.Bool.{ltb-true, ltb-false}
use Rattle.std.proofs.lemmas.List.{get_or-map, length-map}
use Rattle.fleet_base.specs.declared.order.PairId.{PairId}

-- the numbers of the pairs
abbrev numbers : List PairId → List ℕ
numbers qs = map (λ q. q.0) qs

zeroth : PairId
zeroth = record { 0 = 0 }

pub ascending_from_answer : (qs : List PairId) (r : Bool) → IsAllAdjacentAnswer (λ (p q : PairId) (b : Bool). b ≡ ltb p.0 q.0) qs r → IsTrue r ↔ IsStrictlyIncreasing (numbers qs)
ascending_from_answer qs true answer = (
  λ yes k lt.
      let in_qs : k + 1 < length qs = omega (arith, lt, length-map qs (λ (q : PairId). q.0)) in
      let first : get_or (numbers qs) k 0 ≡ (get_or qs k zeroth).0 = get_or-map (λ (q : PairId). q.0) qs k zeroth 0 (omega arith) in
      let second : get_or (numbers qs) (k + 1) 0 ≡ (get_or qs (k + 1) zeroth).0 = get_or-map (λ (q : PairId). q.0) qs (k + 1) zeroth 0 in_qs in
      let below : (get_or qs k zeroth).0 < (get_or qs (k + 1) zeroth).0 = ltb-true _ _ (sym (answer k zeroth in_qs)) in
      omega (arith, first, second, below),
  λ order. refl,
)
ascending_from_answer qs false (k, in_qs, answer) = (
  λ yes. absurd cc,
  λ order.
      let lt : k + 1 < length (numbers qs) = omega (arith, in_qs, length-map qs (λ (q : PairId). q.0)) in
      let first : get_or (numbers qs) k 0 ≡ (get_or qs k zeroth).0 = get_or-map (λ (q : PairId). q.0) qs k zeroth 0 (omega arith) in
      let second : get_or (numbers qs) (k + 1) 0 ≡ (get_or qs (k + 1) zeroth).0 = get_or-map (λ (q : PairId). q.0) qs (k + 1) zeroth 0 in_qs in
      let above : (get_or qs (k + 1) zeroth).0 ≤ (get_or qs k zeroth).0 = ltb-false _ _ (sym (answer zeroth)) in
      absurd (omega (arith, first, second, above, order k lt)),
)
