-- The first fault of a kind at a tick, found by going over the robots.
use Rattle.std.proofs.Common.{ℕ, ◌≡◌, ◌-◌, ◌<◌, ◌≤◌, ◌⊎◌, List, [], ◌∷◌, Some, None, refl, inl, inr, arith, length}
use Rattle.std.specs.Prelude.{slice_index}
use Rattle.std.proofs.lemmas.Bool.{cases_order}
use Rattle.fleet_base.specs.declared.geometry.Cell.{Cell}
use Rattle.fleet_base.specs.Grid.{OccupancyGrid}
use Rattle.plan_check.specs.declared.fault.Unsound.TheVariants.{Blocked, Jump, Share, Swap, Rotation}
use Rattle.plan_check.specs.Faults.{IsFault, robots_of, IsAtMost}
use Rattle.plan_check.specs.Ticks.{NoneOf, IsFirstOf, IsFirstPair, Swaps, IsFirstRotation}
use Rattle.plan_check.specs.Occupants.{SharesFrom}
use Rattle.plan_check.proofs.Order.{of_blocked, of_jump, of_share, of_swap, of_rotation}

-- a number is at most each that is not below it
pub one_at_most : (i j : ℕ) → (j < i → ⊥) → IsAtMost (i ∷ []) (j ∷ [])
one_at_most i j h = go (cases_order i j)
  where
    go : (i ≡ j) ⊎ ((i < j) ⊎ (j < i)) → IsAtMost (i ∷ []) (j ∷ [])
    go (inl e) = inr (e, tt)
    go (inr (inl lt)) = inl lt
    go (inr (inr gt)) = absurd (h gt)

module _ (grid : OccupancyGrid) (plan : List (List Cell)) (t : ℕ) where
  pub blocked_first : (i : ℕ) → IsFault grid plan (Blocked i t) → ((j : ℕ) → j < i → IsFault grid plan (Blocked j t) → ⊥) → IsFirstOf grid plan t 1 (Blocked i t)
  blocked_first i f before = record {
    same = record { tick = refl; kind = refl };
    here = f;
    first = of_blocked grid plan (λ v. IsAtMost (i ∷ []) (robots_of v)) t (λ j g. one_at_most i j (λ lt. before j lt g));
  }

  pub blocked_none : ((i : ℕ) → i < length plan → IsFault grid plan (Blocked i t) → ⊥) → NoneOf grid plan t 1
  blocked_none h = of_blocked grid plan (λ v. ⊥) t (λ i f. h i f.0 f)

  pub jump_first : (i : ℕ) → IsFault grid plan (Jump i t) → ((j : ℕ) → j < i → IsFault grid plan (Jump j t) → ⊥) → IsFirstOf grid plan t 2 (Jump i t)
  jump_first i f before = record {
    same = record { tick = refl; kind = refl };
    here = f;
    first = of_jump grid plan (λ v. IsAtMost (i ∷ []) (robots_of v)) t (λ j g. one_at_most i j (λ lt. before j lt g));
  }

  pub jump_none : ((i : ℕ) → i < length plan → IsFault grid plan (Jump i t) → ⊥) → NoneOf grid plan t 2
  jump_none h = of_jump grid plan (λ v. ⊥) t (λ i f. h i f.0 f)

  -- the first two that share a cell are the first such fault
  pub share_first : (p : ℕ × ℕ) → IsFirstPair (SharesFrom plan t 0) (Some p) → IsFirstOf grid plan t 3 (Share p.0 p.1 t)
  share_first p h = record {
    same = record { tick = refl; kind = refl };
    here = (h.0.below, h.0.there, h.0.same);
    first = of_share grid plan (λ v. IsAtMost (p.0 ∷ p.1 ∷ []) (robots_of v)) t (λ i j f. h.1 i j (record { low = omega arith; below = f.0; there = f.1; same = f.2 }));
  }

  pub share_none : IsFirstPair (SharesFrom plan t 0) None → NoneOf grid plan t 3
  share_none h = of_share grid plan (λ v. ⊥) t (λ i j f. h i j (record { low = omega arith; below = f.0; there = f.1; same = f.2 }))

  -- and so it is with the first two that swap
  pub swap_first : 1 ≤ t → (p : ℕ × ℕ) → IsFirstPair (Swaps plan t) (Some p) → IsFirstOf grid plan t 4 (Swap p.0 p.1 t)
  swap_first later p h = record {
    same = record { tick = refl; kind = refl };
    here = (h.0.below, h.0.there, later, h.0.one, h.0.other);
    first = of_swap grid plan (λ v. IsAtMost (p.0 ∷ p.1 ∷ []) (robots_of v)) t (λ i j f. h.1 i j (record { below = f.0; there = f.1; one = f.3; other = f.4 }));
  }

  pub swap_none : IsFirstPair (Swaps plan t) None → NoneOf grid plan t 4
  swap_none h = of_swap grid plan (λ v. ⊥) t (λ i j f. h i j (record { below = f.0; there = f.1; one = f.3; other = f.4 }))

  -- and with the rotation whose first robot is the least
  pub rotation_first : 1 ≤ t → (robots : List ℕ) → IsFirstRotation plan (t - 1) (Some robots) → IsFirstOf grid plan t 5 (Rotation robots t)
  rotation_first later robots h = record {
    same = record { tick = refl; kind = refl };
    here = (later, h.0);
    first = of_rotation grid plan (λ v. IsAtMost (slice_index robots 0 ∷ []) (robots_of v)) t (λ others f. one_at_most (slice_index robots 0) (slice_index others 0) (λ lt. omega (arith, lt, h.1 others f.1)));
  }

  pub rotation_none : IsFirstRotation plan (t - 1) None → NoneOf grid plan t 5
  rotation_none h = of_rotation grid plan (λ v. ⊥) t (λ robots f. h robots f.1)
