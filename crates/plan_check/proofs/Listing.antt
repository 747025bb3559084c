-- The first rotation is listed from its least robot.
use Rattle.std.proofs.Common.{ℕ, suc, zero, ◌≡◌, ◌-◌, ◌<◌, ◌≤◌, List, [], ◌∷◌, ◌++◌, ◌∙◌, inl, inr, arith, length, get_or, length-append}
use Rattle.std.specs.Prelude.{All, slice_index}
use Rattle.std.proofs.lemmas.List.{get_or_default, get_or_append_left}
use Rattle.fleet_base.specs.declared.geometry.Cell.{Cell}
use Rattle.fleet_base.specs.Lists.{Ring, AllDifferent}
use Rattle.fleet_base.specs.Grid.{OccupancyGrid}
use Rattle.fleet_base.specs.Plan.{Follows, IsRotation}
use Rattle.fleet_base.proofs.Sorting.{Distinct, all_different}
use Rattle.plan_check.specs.declared.fault.Unsound.TheVariants.{Rotation}
use Rattle.plan_check.specs.Faults.{IsFirstFault, rank_of, IsAtMost}
use Rattle.plan_check.proofs.Rings.{distinct_push, chain_push}
use Rattle.plan_check.proofs.OneFirst.{not_among}

distinct_from : (xs : List ℕ) → AllDifferent xs → Distinct xs
distinct_from [] d = tt
distinct_from (x ∷ xs) d = (not_among x xs d, distinct_from xs (λ j k e lt h. d (suc j) (suc k) e (omega (arith, lt)) (omega (arith, h))))

-- a ring begun at its second place
ring_turned : (R : ℕ → ℕ → Type 0) (x : ℕ) (xs : List ℕ) → Ring R (x ∷ xs) → Ring R (xs ++ x ∷ [])
ring_turned R x [] c = c
ring_turned R x (y ∷ ys) c = chain_push R y ys x y c.1 c.0

module _ (plan : List (List Cell)) (t : ℕ) where
  rotation_turned : (x : ℕ) (xs : List ℕ) → IsRotation plan t (x ∷ xs) → IsRotation plan t (xs ++ x ∷ [])
  rotation_turned x xs r =
      let d = distinct_from (x ∷ xs) r.different in
      record {
        three = let h = r.three in omega (arith, length-append xs (x ∷ []));
        different = all_different (xs ++ x ∷ []) (distinct_push xs x d.1 d.0);
        round = ring_turned (Follows plan t) x xs r.round;
      }

  -- a rotation may be listed from each of its robots
  pub listed_from : (k : ℕ) (xs : List ℕ) (m : ℕ) → IsRotation plan t xs → k < length xs → get_or xs k m ≡ m → (ys : List ℕ) × IsRotation plan t ys × (slice_index ys 0 ≡ m)
  listed_from k [] m r h e = absurd r.round
  listed_from zero (x ∷ xs) m r h e = (x ∷ xs, r, e)
  listed_from (suc k) (x ∷ xs) m r h e =
      let within : k < length xs = omega (arith, h) in
      listed_from k (xs ++ x ∷ []) m (rotation_turned x xs r) (omega (arith, within, length-append xs (x ∷ []))) (get_or_append_left xs (x ∷ []) m k within ∙ e)

module _ (grid : OccupancyGrid) (plan : List (List Cell)) where
  pub leads_with_least : (robots : List ℕ) (t : ℕ) → IsFirstFault grid plan (Rotation robots t) → All (λ robot. slice_index robots 0 ≤ robot) robots
  leads_with_least robots t f k d h =
      let m = get_or robots k d in
      let l = listed_from plan (t - 1) k robots m f.here.1 h (get_or_default robots k m d h) in
      least m l.0 l.2 (f.first (Rotation l.0 t) (f.here.0, l.1))
    where
      least : (m : ℕ) (ys : List ℕ) → slice_index ys 0 ≡ m → IsAtMost (rank_of (Rotation robots t)) (rank_of (Rotation ys t)) → slice_index robots 0 ≤ m
      least m ys e (inl lt) = absurd (omega (arith, lt))
      least m ys e (inr (s, inl lt)) = absurd (omega (arith, lt))
      least m ys e (inr (s, inr (q, inl lt))) = omega (arith, lt, e)
      least m ys e (inr (s, inr (q, inr (p, rest)))) = omega (arith, p, e)
