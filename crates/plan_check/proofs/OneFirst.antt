-- A plan has one first fault at most.
use Rattle.std.proofs.Common.{ℕ, suc, ◌≡◌, ◌-◌, ◌<◌, ◌⊎◌, List, [], ◌∷◌, refl, sym, ap, subst, inl, inr, arith, length}
use Rattle.std.specs.Prelude.{Contains, slice_index}
use Rattle.std.proofs.lemmas.Bool.{cases_order}
use Rattle.fleet_base.specs.declared.geometry.Cell.{Cell}
use Rattle.fleet_base.specs.Lists.{Chain, AllDifferent, row_of}
use Rattle.fleet_base.specs.Grid.{OccupancyGrid}
use Rattle.fleet_base.specs.Plan.{Follows, IsRotation}
use Rattle.plan_check.specs.declared.fault.Large.{Large}
use Rattle.plan_check.specs.declared.fault.Large.TheVariants.{Robots, Ticks, Visits}
use Rattle.plan_check.specs.declared.fault.Unsound.{Unsound}
use Rattle.plan_check.specs.declared.fault.Unsound.TheVariants.{TooLarge, Blocked, Jump, Share, Swap, Rotation}
use Rattle.plan_check.specs.Faults.{IsTooLarge, too_many_robots, too_many_ticks, too_many_visits, IsFirstFault, rank_of, IsAtMost}
use Rattle.plan_check.specs.Ticks.{IsOf, IsApart, Enters}
use Rattle.plan_check.proofs.Order.{of_large, of_blocked, of_jump, of_share, of_swap, of_rotation}
use Rattle.plan_check.proofs.Rings.{one_next, one_ring}

-- two lists, each at most the other, are the same
at_most_both : (xs ys : List ℕ) → IsAtMost xs ys → IsAtMost ys xs → xs ≡ ys
at_most_both [] [] h k = refl
at_most_both [] (y ∷ ys) h k = absurd k
at_most_both (x ∷ xs) [] h k = absurd h
at_most_both (x ∷ xs) (y ∷ ys) (inl lt) (inl gt) = absurd (omega (arith, lt, gt))
at_most_both (x ∷ xs) (y ∷ ys) (inl lt) (inr (e, k)) = absurd (omega (arith, lt, e))
at_most_both (x ∷ xs) (y ∷ ys) (inr (e, h)) (inl gt) = absurd (omega (arith, gt, e))
at_most_both (x ∷ xs) (y ∷ ys) (inr (e, h)) (inr (f, k)) = let r : xs ≡ ys = at_most_both xs ys h k in cc

-- where all are different, the first is not among the others
pub not_among : (a : ℕ) (ys : List ℕ) → AllDifferent (a ∷ ys) → Contains ys a → ⊥
not_among a ys d (k, lt, e) = d 0 (suc k) a (omega arith) (omega (arith, lt)) (sym e)

module _ (plan : List (List Cell)) where
  -- a plan is above one limit first, with one number
  one_large : (w v : Large) (c d : ℕ) → IsTooLarge plan c w → IsTooLarge plan d v → TooLarge w c ≡ TooLarge v d
  one_large Robots Robots c d (too_many_robots h e) (too_many_robots k f) = cc
  one_large Robots Ticks c d (too_many_robots h e) (too_many_ticks k i lt long f before) = absurd (omega (arith, h, k))
  one_large Robots Visits c d (too_many_robots h e) (too_many_visits k all many f) = absurd (omega (arith, h, k))
  one_large Ticks Robots c d (too_many_ticks k i lt long f before) (too_many_robots h e) = absurd (omega (arith, h, k))
  one_large Ticks Ticks c d (too_many_ticks k i lt long f before) (too_many_ticks k2 i2 lt2 long2 f2 before2) = go (cases_order i i2)
    where
      go : (i ≡ i2) ⊎ ((i < i2) ⊎ (i2 < i)) → TooLarge Ticks c ≡ TooLarge Ticks d
      go (inl e) = let g : length (row_of plan i) - 1 ≡ length (row_of plan i2) - 1 = ap (λ (n : ℕ). length (row_of plan n) - 1) e in cc
      go (inr (inl less)) = absurd (omega (arith, before2 i less, long))
      go (inr (inr more)) = absurd (omega (arith, before i2 more, long2))
  one_large Ticks Visits c d (too_many_ticks k i lt long f before) (too_many_visits k2 all many f2) = absurd (omega (arith, all i [] lt, long))
  one_large Visits Robots c d (too_many_visits k all many f) (too_many_robots h e) = absurd (omega (arith, h, k))
  one_large Visits Ticks c d (too_many_visits k2 all many f2) (too_many_ticks k i lt long f before) = absurd (omega (arith, all i [] lt, long))
  one_large Visits Visits c d (too_many_visits k all many f) (too_many_visits k2 all2 many2 f2) = cc

  module _ (t : ℕ) where
    chain_there : (a : ℕ) (ys : List ℕ) (z : ℕ) → Chain (Follows plan t) a ys z → a < length plan
    chain_there a [] z c = c.here
    chain_there a (y ∷ ys) z c = c.0.here

    -- who follow one another are there
    enters_along : (a : ℕ) (ys : List ℕ) (z : ℕ) → z < length plan → Chain (Follows plan t) a ys z → Chain (Enters plan t) a ys z
    enters_along a [] z h c = record { follows = c; there = h }
    enters_along a (y ∷ ys) z h c = (record { follows = c.0; there = chain_there y ys z c.1 }, enters_along y ys z h c.1)

    -- from one robot there is one rotation
    one_rotation : IsApart plan t → (xs ys : List ℕ) → IsRotation plan t xs → IsRotation plan t ys → slice_index xs 0 ≡ slice_index ys 0 → xs ≡ ys
    one_rotation apart [] ys r s e = absurd r.round
    one_rotation apart (x ∷ xs) [] r s e = absurd s.round
    one_rotation apart (x ∷ xs) (y ∷ ys) r s e =
        let same : y ≡ x = sym e in
        let c : Chain (Enters plan t) x xs x = enters_along x xs x (chain_there x xs x r.round) r.round in
        let d : Chain (Enters plan t) y ys y = enters_along y ys y (chain_there y ys y s.round) s.round in
        let d2 : Chain (Enters plan t) x ys x = subst (λ (w : ℕ). Chain (Enters plan t) w ys w) same d in
        let out : Contains ys x → ⊥ = λ k. not_among y ys s.different (subst (λ (w : ℕ). Contains ys w) (sym same) k) in
        let rest : xs ≡ ys = one_ring (Enters plan t) (one_next plan t apart) x x xs ys c d2 (not_among x xs r.different) out in
        cc

module _ (grid : OccupancyGrid) (plan : List (List Cell)) where
  -- the faults before the first are none
  apart_before : (robots : List ℕ) (t : ℕ) → IsFirstFault grid plan (Rotation robots t) → IsApart plan (t - 1)
  apart_before robots t f i j lt h e = go (f.first (Share i j (t - 1)) (lt, h, e))
    where
      go : IsAtMost (rank_of (Rotation robots t)) (rank_of (Share i j (t - 1))) → ⊥
      go (inl k) = omega (arith, k)
      go (inr (k, more)) = let s = f.here.0 in omega (arith, k, s)

  same_ranks : (u v : Unsound) → IsFirstFault grid plan u → IsFirstFault grid plan v → rank_of u ≡ rank_of v
  same_ranks u v f g = at_most_both (rank_of u) (rank_of v) (f.first v g.here) (g.first u f.here)

  pub one_first_fault : (u v : Unsound) → IsFirstFault grid plan u → IsFirstFault grid plan v → u ≡ v
  one_first_fault u v f g = go u f (same_ranks u v f g)
    where
      of : (t k : ℕ) (rs : List ℕ) → t ∷ k ∷ rs ≡ rank_of v → IsOf t k v
      of t k rs e = record { tick = cc; kind = cc }

      go : (u : Unsound) → IsFirstFault grid plan u → rank_of u ≡ rank_of v → u ≡ v
      go (TooLarge w c) f e = of_large grid plan (λ v. TooLarge w c ≡ v) (λ w2 c2 g. one_large plan w w2 c c2 f.here g) v (of 0 0 [] e) g.here
      go (Blocked i t) f e = of_blocked grid plan (λ v. rank_of (Blocked i t) ≡ rank_of v → Blocked i t ≡ v) t (λ i2 g r. cc) v (of t 1 (i ∷ []) e) g.here e
      go (Jump i t) f e = of_jump grid plan (λ v. rank_of (Jump i t) ≡ rank_of v → Jump i t ≡ v) t (λ i2 g r. cc) v (of t 2 (i ∷ []) e) g.here e
      go (Share i j t) f e = of_share grid plan (λ v. rank_of (Share i j t) ≡ rank_of v → Share i j t ≡ v) t (λ i2 j2 g r. cc) v (of t 3 (i ∷ j ∷ []) e) g.here e
      go (Swap i j t) f e = of_swap grid plan (λ v. rank_of (Swap i j t) ≡ rank_of v → Swap i j t ≡ v) t (λ i2 j2 g r. cc) v (of t 4 (i ∷ j ∷ []) e) g.here e
      go (Rotation robots t) f e = of_rotation grid plan (λ v. rank_of (Rotation robots t) ≡ rank_of v → Rotation robots t ≡ v) t
          (λ robots2 g r.
          let heads : slice_index robots 0 ≡ slice_index robots2 0 = cc in
          ap (λ rs. Rotation rs t) (one_rotation plan (t - 1) (apart_before robots t f) robots robots2 f.here.1 g.1 heads))
          v (of t 5 (slice_index robots 0 ∷ []) e) g.here e
