-- The pairs of a visit, gone through one by one.
use Rattle.std.proofs.Common.{ℕ, ◌≡◌, ◌+◌, ◌≤◌, ◌⊎◌, List, Some, Option, sym, ap, ◌∙◌, subst, inl, inr, arith, length}
use Rattle.std.specs.Prelude.{slice_get}
use Rattle.std.proofs.lemmas.Bool.{cases_eq}
use Rattle.fleet_base.specs.declared.geometry.Visit.{Visit}
use Rattle.fleet_base.specs.declared.order.PairId.{PairId}
use Rattle.fleet_base.specs.declared.order.Side.{Side}
use Rattle.fleet_base.specs.Pairs.{numbers_of}
use Rattle.fleet_base.specs.Order.{Graph}
use Rattle.fleet_base.proofs.Members.{place_of_element}
use Rattle.plan_graph.specs.Listing.{IsPassed, ArePassed, IsFree}
use Rattle.plan_graph.proofs.Numbers.{edge_numbered}

module _ (g : Graph) (order : ℕ → Option Side) (listed : List ℕ) where
  -- one pair more does not hold the visit back
  pub passed_more : (v : Visit) (n : ℕ) (q : PairId) → ArePassed g order listed v n → slice_get (numbers_of g.pairs v) n ≡ Some q → IsPassed g order listed v q → ArePassed g order listed v (n + 1)
  passed_more v n q all here one k r lt e = go (cases_eq k n)
    where
      go : (k ≡ n) ⊎ (k ≡ n → ⊥) → IsPassed g order listed v r
      go (inl s) =
          let same : Some q ≡ Some r = sym here ∙ ap (λ (m : ℕ). slice_get (numbers_of g.pairs v) m) (sym s) ∙ e in
          let is : q ≡ r = cc in
          subst (λ (p : PairId). IsPassed g order listed v p) is one
      go (inr ne) = all k r (omega arith) e

  -- where none of its pairs holds it back, a visit is free
  pub free_from_all : (v : Visit) (n : ℕ) → ArePassed g order listed v n → length (numbers_of g.pairs v) ≤ n → IsFree g order listed v
  free_from_all v n all past q u e there =
      let p = place_of_element (numbers_of g.pairs v) (record { 0 = q }) (edge_numbered g order q u v e) in
      all p.0 (record { 0 = q }) (omega (arith, p.1, past)) p.2 u e there
