-- Which pairs hold a visit back.
use Rattle.std.proofs.Common.{ℕ, ◌≡◌, ◌+◌, ◌<◌, ◌≤◌, ◌⊎◌, Some, refl, sym, ap, ◌∙◌, subst, inl, inr, arith, length}
use Rattle.std.specs.Prelude.{slice_get}
use Rattle.std.proofs.lemmas.Bool.{cases_eq}
use Rattle.fleet_base.specs.declared.geometry.Visit.{Visit}
use Rattle.fleet_base.specs.declared.order.Pair.{Pair}
use Rattle.fleet_base.specs.declared.order.PairId.{PairId}
use Rattle.fleet_base.specs.declared.order.Side.{Side}
use Rattle.fleet_base.specs.declared.order.Side.TheVariants.{Lower, Higher}
use Rattle.fleet_base.specs.Pairs.{numbers_of}
use Rattle.fleet_base.specs.Order.{Graph, IsGraph, HasEdge, first_visit, second_visit, next_visit}
use Rattle.fleet_base.specs.State.{FleetState, order_at, HasArrived}
use Rattle.fleet_base.specs.Release.{IsClearTo}
use Rattle.fleet_base.proofs.Members.{place_of_element}
use Rattle.plan_graph.proofs.Numbers.{edge_numbered}
use Rattle.release_rule.specs.Releasing.{IsPassed, IsClear}

module _ (g : Graph) (x : FleetState) where
  -- the edge of a pair is the one of its side
  the_edge : (q : ℕ) (pair : Pair) (side : Side) (u v : Visit) → slice_get g.pairs q ≡ Some pair → order_at g x q ≡ Some side → HasEdge g (order_at g x) q u v
      → (u ≡ next_visit (first_visit pair side)) × (v ≡ second_visit pair side)
  the_edge q pair side u v here sided e =
      let p : e.pair ≡ pair = cc in
      let s : e.side ≡ side = cc in (
        e.tail ∙ ap (λ (r : Pair). next_visit (first_visit r e.side)) p ∙ ap (λ (d : Side). next_visit (first_visit pair d)) s,
        e.head ∙ ap (λ (r : Pair). second_visit r e.side) p ∙ ap (λ (d : Side). second_visit pair d) s,
      )

  -- a pair whose waiting visit is another one does not hold the visit back
  pub other_waits : (q : ℕ) (pair : Pair) (side : Side) (v : Visit) → slice_get g.pairs q ≡ Some pair → order_at g x q ≡ Some side → (second_visit pair side ≡ v → ⊥) → IsPassed g x q v
  other_waits q pair side v here sided ne u e = absurd (ne (sym (the_edge q pair side u v here sided e).1))

  -- where the first robot's following visit has arrived, the pair does not hold the other visit back
  pub first_is_past : (q : ℕ) (pair : Pair) (side : Side) (v : Visit) → slice_get g.pairs q ≡ Some pair → order_at g x q ≡ Some side → HasArrived x (next_visit (first_visit pair side)) → IsPassed g x q v
  first_is_past q pair side v here sided past u e = subst (λ (w : Visit). HasArrived x w) (sym (the_edge q pair side u v here sided e).0) past

  -- and where the pair does not, it has
  pub past_first : (q : ℕ) (pair : Pair) (side : Side) (v : Visit) → slice_get g.pairs q ≡ Some pair → order_at g x q ≡ Some side → second_visit pair side ≡ v → IsPassed g x q v → HasArrived x (next_visit (first_visit pair side))
  past_first q pair side v here sided same passed = passed (next_visit (first_visit pair side)) (record { pair = pair; side = side; listed = here; sided = sided; tail = refl; head = sym same })

  -- the first so many pairs of a visit do not hold it back
  abbrev pub ArePassed : Visit → ℕ → Type 0
  ArePassed v n = (k : ℕ) (q : PairId) → k < n → slice_get (numbers_of g.pairs v) k ≡ Some q → IsPassed g x q.0 v

  pub passed_more : (v : Visit) (n : ℕ) (q : PairId) → ArePassed v n → slice_get (numbers_of g.pairs v) n ≡ Some q → IsPassed g x q.0 v → ArePassed v (n + 1)
  passed_more v n q all here one k r lt e = go (cases_eq k n)
    where
      go : (k ≡ n) ⊎ (k ≡ n → ⊥) → IsPassed g x r.0 v
      go (inl s) =
          let same : Some q ≡ Some r = sym here ∙ ap (λ (m : ℕ). slice_get (numbers_of g.pairs v) m) (sym s) ∙ e in
          let is : q ≡ r = cc in
          subst (λ (p : PairId). IsPassed g x p.0 v) is one
      go (inr ne) = all k r (omega arith) e

  -- where none of its pairs does, the visit is clear
  pub clear_from_all : (v : Visit) (n : ℕ) → ArePassed v n → length (numbers_of g.pairs v) ≤ n → IsClear g x v
  clear_from_all v n all past q u e =
      let p = place_of_element (numbers_of g.pairs v) (record { 0 = q }) (edge_numbered g (order_at g x) q u v e) in
      all p.0 (record { 0 = q }) (omega (arith, p.1, past)) p.2 u e

  -- a robot that is clear to a visit and at the next one is clear to that
  pub clear_to_next : (i k : ℕ) → IsClearTo g (order_at g x) x i k → IsClear g x (record { robot = i; index = k + 1 }) → IsClearTo g (order_at g x) x i (k + 1)
  clear_to_next i k before next q u v e r m = go (cases_eq v.index (k + 1))
    where
      at : v.index ≡ k + 1 → v ≡ record { robot = i; index = k + 1 }
      at s = λ j. record { robot = r j; index = s j }

      go : (v.index ≡ k + 1) ⊎ (v.index ≡ k + 1 → ⊥) → HasArrived x u
      go (inl s) = next q u (subst (λ (w : Visit). HasEdge g (order_at g x) q u w) (at s) e)
      go (inr ne) = before q u v e r (omega (arith, m, ne))

  -- a robot that is clear to a visit is clear at each up to it
  pub clear_at : (i k m : ℕ) → IsClearTo g (order_at g x) x i m → k ≤ m → IsClear g x (record { robot = i; index = k })
  clear_at i k m all le q u e = all q u (record { robot = i; index = k }) e refl le

-- the robot that is first is there
pub first_there : (g : Graph) → IsGraph g → (q : ℕ) (pair : Pair) (side : Side) → slice_get g.pairs q ≡ Some pair → (first_visit pair side).robot < length g.lasts
first_there g good q pair Lower e = (good.lower q pair e).robot
first_there g good q pair Higher e = (good.higher q pair e).robot
