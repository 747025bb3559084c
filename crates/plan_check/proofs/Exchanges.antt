-- Whose cell a robot enters, and with whom it exchanges its own.
use Rattle.std.proofs.Common.{ℕ, suc, ◌≡◌, ◌-◌, ◌<◌, ◌≤◌, ◌⊎◌, List, [], ◌∷◌, Option, Some, None, sym, ap, ◌∙◌, subst, inl, inr, arith, length}
use Rattle.std.specs.BTreeMap.{BTreeMap}
use Rattle.std.proofs.lemmas.Bool.{cases_order}
use Rattle.fleet_base.specs.declared.geometry.Cell.{Cell}
use Rattle.fleet_base.specs.Plan.{cell_at}
use Rattle.plan_check.specs.Faults.{IsAtMost}
use Rattle.plan_check.specs.Occupants.{occupant, HasOccupants}
use Rattle.plan_check.specs.Ticks.{MovesApart, Swaps, Enters, IsLeader, IsPartner, IsFirstPair}
use Rattle.plan_check.proofs.Firsts.{one_at_most}
use Rattle.plan_check.proofs.Rings.{one_next}

module _ (plan : List (List Cell)) (t : ℕ) (later : 1 ≤ t) (i : ℕ) (there : i < length plan) where
  next_tick : suc (t - 1) ≡ t
  next_tick = omega arith

  -- who stays in its cell enters no other's
  pub stays_alone : (to : Cell) → to ≡ cell_at plan i t → to ≡ cell_at plan i (t - 1) → IsLeader plan (t - 1) i None
  stays_alone to e s j h =
      let here : cell_at plan i (suc (t - 1)) ≡ cell_at plan i (t - 1) = ap (λ (w : ℕ). cell_at plan i w) next_tick ∙ (sym e ∙ s) in
      h.follows.changes here

  -- who moves enters the cell of him who was in it
  pub moves_after : (former : BTreeMap Cell ℕ) → HasOccupants former plan (t - 1) 0 → (to : Cell) → to ≡ cell_at plan i t → (to ≡ cell_at plan i (t - 1) → ⊥)
      → (o : Option ℕ) → o ≡ occupant former to → IsLeader plan (t - 1) i o
  moves_after former h to e moves None none = λ j f.
      let l = h.least j (omega arith) f.there in
      let s : cell_at plan j (t - 1) ≡ to = sym f.follows.enters ∙ (ap (λ (w : ℕ). cell_at plan i w) next_tick ∙ sym e) in
      let o : occupant former to ≡ Some l.0 = subst (λ (c : Cell). occupant former c ≡ Some l.0) s l.1 in
      absurd cc
  moves_after former h to e moves (Some j) some =
      let k = h.kept to j (sym some) in
      record {
        follows = record {
          here = there;
          changes = λ s. moves (e ∙ (ap (λ (w : ℕ). cell_at plan i w) (sym next_tick) ∙ s));
          enters = ap (λ (w : ℕ). cell_at plan i w) next_tick ∙ (sym e ∙ sym k.2);
        };
        there = k.1;
      }

module _ (plan : List (List Cell)) (t : ℕ) (moves : MovesApart plan t) where
  after : suc (t - 1) ≡ t
  after = let h = moves.tick in omega arith

  -- who swaps with another enters its cell
  pub swap_enters : (i j : ℕ) → Swaps plan t i j → Enters plan (t - 1) i j
  swap_enters i j s = record {
    follows = record {
      here = there;
      changes = λ e. moves.before i j s.below s.there (sym e ∙ (ap (λ (w : ℕ). cell_at plan i w) after ∙ s.one));
      enters = ap (λ (w : ℕ). cell_at plan i w) after ∙ s.one;
    };
    there = s.there;
  }
    where
      there : i < length plan
      there = let a = s.below in let b = s.there in omega arith

  -- with whom a robot swaps is its leader
  pub one_partner : (i j k : ℕ) → Enters plan (t - 1) i j → Swaps plan t i k → j ≡ k
  one_partner i j k e s = one_next plan (t - 1) moves.before i j k e (swap_enters i k s)

  pub no_partner : (i : ℕ) → IsLeader plan (t - 1) i None → IsPartner plan t i None
  no_partner i none j s = none j (swap_enters i j s)

  pub not_partner : (i j : ℕ) → Enters plan (t - 1) i j → (Swaps plan t i j → ⊥) → IsPartner plan t i None
  not_partner i j e no_swap k s = no_swap (subst (λ (w : ℕ). Swaps plan t i w) (sym (one_partner i j k e s)) s)

  pub partner : (i j : ℕ) → Enters plan (t - 1) i j → i < j → cell_at plan j t ≡ cell_at plan i (t - 1) → IsPartner plan t i (Some j)
  partner i j e lt other = record { below = lt; there = e.there; one = ap (λ (w : ℕ). cell_at plan i w) (sym after) ∙ e.follows.enters; other = other }

  -- the first robot that swaps, with the robot with which it does, are the first two
  pub first_swap : (i j : ℕ) → Swaps plan t i j → ((k : ℕ) → k < i → (m : ℕ) → Swaps plan t k m → ⊥) → IsFirstPair (Swaps plan t) (Some (i, j))
  first_swap i j s before = (s, λ k m r. go k m r (cases_order i k))
    where
      go : (k m : ℕ) → Swaps plan t k m → (i ≡ k) ⊎ ((i < k) ⊎ (k < i)) → IsAtMost (i ∷ j ∷ []) (k ∷ m ∷ [])
      go k m r (inr (inl lt)) = inl lt
      go k m r (inr (inr gt)) = absurd (before k gt m r)
      go k m r (inl e) =
          let same : j ≡ m = one_partner i j m (swap_enters i j s) (subst (λ (w : ℕ). Swaps plan t w m) (sym e) r) in
          inr (e, one_at_most j m (λ lt. omega (arith, lt, same)))
