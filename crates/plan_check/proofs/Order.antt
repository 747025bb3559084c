-- From the faults of one kind at one tick to the first fault of all.
use Rattle.std.proofs.Common.{ℕ, suc, ◌≡◌, ◌<◌, ◌≤◌, ◌⊎◌, List, ◌∷◌, sym, ◌∙◌, subst, inl, inr, arith}
use Rattle.std.proofs.lemmas.Bool.{cases_order}
use Rattle.fleet_base.specs.declared.geometry.Cell.{Cell}
use Rattle.fleet_base.specs.Grid.{OccupancyGrid}
use Rattle.plan_check.specs.declared.fault.Unsound.{Unsound}
use Rattle.plan_check.specs.declared.fault.Unsound.TheVariants.{TooLarge, Blocked, Jump, Share, Swap, Rotation}
use Rattle.plan_check.specs.Faults.{IsFault, IsFirstFault, tick_of, kind_of, robots_of, rank_of, IsAtMost}
use Rattle.plan_check.specs.Ticks.{IsOf, NoneBefore, NoneOf, IsFirstOf}

kind_below : (u : Unsound) → kind_of u < 6
kind_below (TooLarge w c) = omega arith
kind_below (Blocked i t) = omega arith
kind_below (Jump i t) = omega arith
kind_below (Share i j t) = omega arith
kind_below (Swap i j t) = omega arith
kind_below (Rotation robots t) = omega arith

module _ (grid : OccupancyGrid) (plan : List (List Cell)) where
  pub none_at_start : NoneBefore grid plan 0 0
  none_at_start u f (inl h) = absurd (omega (arith, h))
  none_at_start u f (inr h) = absurd (omega (arith, h.1))

  -- no fault of this kind either
  pub next_kind : (t k : ℕ) → NoneBefore grid plan t k → NoneOf grid plan t k → NoneBefore grid plan t (suc k)
  next_kind t k before here u f (inl h) = before u f (inl h)
  next_kind t k before here u f (inr h) = go (cases_order (kind_of u) k)
    where
      go : (kind_of u ≡ k) ⊎ ((kind_of u < k) ⊎ (k < kind_of u)) → ⊥
      go (inl e) = here u (record { tick = h.0; kind = e }) f
      go (inr (inl lt)) = before u f (inr (h.0, lt))
      go (inr (inr gt)) = absurd (omega (arith, h.1))

  -- after the last kind comes the next tick
  pub next_tick : (t : ℕ) → NoneBefore grid plan t 6 → NoneBefore grid plan (suc t) 0
  next_tick t before u f (inr h) = absurd (omega (arith, h.1))
  next_tick t before u f (inl h) = go (cases_order (tick_of u) t)
    where
      go : (tick_of u ≡ t) ⊎ ((tick_of u < t) ⊎ (t < tick_of u)) → ⊥
      go (inl e) = before u f (inr (e, kind_below u))
      go (inr (inl lt)) = before u f (inl lt)
      go (inr (inr gt)) = absurd (omega (arith, h))

  -- a plan that is too large is so at tick 0 alone
  pub never_later : (t : ℕ) → 1 ≤ t → NoneOf grid plan t 0
  never_later t h (TooLarge w c) o f = absurd (omega (arith, o.tick))
  never_later t h (Blocked i s) o f = absurd (omega (arith, o.kind))
  never_later t h (Jump i s) o f = absurd (omega (arith, o.kind))
  never_later t h (Share i j s) o f = absurd (omega (arith, o.kind))
  never_later t h (Swap i j s) o f = absurd (omega (arith, o.kind))
  never_later t h (Rotation robots s) o f = absurd (omega (arith, o.kind))

  -- the first of its kind at its tick is the first of all, where none comes before
  pub first_of_all : (t k : ℕ) (u : Unsound) → NoneBefore grid plan t k → IsFirstOf grid plan t k u → IsFirstFault grid plan u
  first_of_all t k u before here = record { here = here.here; first = first }
    where
      at_kind : (v : Unsound) → IsFault grid plan v → tick_of v ≡ t → (kind_of v ≡ k) ⊎ ((kind_of v < k) ⊎ (k < kind_of v)) → IsAtMost (kind_of u ∷ robots_of u) (kind_of v ∷ robots_of v)
      at_kind v f s (inl e) = inr (here.same.kind ∙ sym e, here.first v (record { tick = s; kind = e }) f)
      at_kind v f s (inr (inl lt)) = absurd (before v f (inr (s, lt)))
      at_kind v f s (inr (inr gt)) = let e = here.same.kind in inl (omega arith)

      at_tick : (v : Unsound) → IsFault grid plan v → (tick_of v ≡ t) ⊎ ((tick_of v < t) ⊎ (t < tick_of v)) → IsAtMost (rank_of u) (rank_of v)
      at_tick v f (inl e) = inr (here.same.tick ∙ sym e, at_kind v f e (cases_order (kind_of v) k))
      at_tick v f (inr (inl lt)) = absurd (before v f (inl lt))
      at_tick v f (inr (inr gt)) = let e = here.same.tick in inl (omega arith)

      first : (v : Unsound) → IsFault grid plan v → IsAtMost (rank_of u) (rank_of v)
      first v f = at_tick v f (cases_order (tick_of v) t)

  -- what is said of each fault of a kind at a tick

  pub of_large : (Q : Unsound → Type 0) → ((w : _) (c : ℕ) → IsFault grid plan (TooLarge w c) → Q (TooLarge w c)) → (u : Unsound) → IsOf 0 0 u → IsFault grid plan u → Q u
  of_large Q h (TooLarge w c) o f = h w c f
  of_large Q h (Blocked i s) o f = absurd (omega (arith, o.kind))
  of_large Q h (Jump i s) o f = absurd (omega (arith, o.kind))
  of_large Q h (Share i j s) o f = absurd (omega (arith, o.kind))
  of_large Q h (Swap i j s) o f = absurd (omega (arith, o.kind))
  of_large Q h (Rotation robots s) o f = absurd (omega (arith, o.kind))

  pub of_blocked : (Q : Unsound → Type 0) (t : ℕ) → ((i : ℕ) → IsFault grid plan (Blocked i t) → Q (Blocked i t)) → (u : Unsound) → IsOf t 1 u → IsFault grid plan u → Q u
  of_blocked Q t h (TooLarge w c) o f = absurd (omega (arith, o.kind))
  of_blocked Q t h (Blocked i s) o f = subst (λ (w : ℕ). IsFault grid plan (Blocked i w) → Q (Blocked i w)) (sym o.tick) (h i) f
  of_blocked Q t h (Jump i s) o f = absurd (omega (arith, o.kind))
  of_blocked Q t h (Share i j s) o f = absurd (omega (arith, o.kind))
  of_blocked Q t h (Swap i j s) o f = absurd (omega (arith, o.kind))
  of_blocked Q t h (Rotation robots s) o f = absurd (omega (arith, o.kind))

  pub of_jump : (Q : Unsound → Type 0) (t : ℕ) → ((i : ℕ) → IsFault grid plan (Jump i t) → Q (Jump i t)) → (u : Unsound) → IsOf t 2 u → IsFault grid plan u → Q u
  of_jump Q t h (TooLarge w c) o f = absurd (omega (arith, o.kind))
  of_jump Q t h (Blocked i s) o f = absurd (omega (arith, o.kind))
  of_jump Q t h (Jump i s) o f = subst (λ (w : ℕ). IsFault grid plan (Jump i w) → Q (Jump i w)) (sym o.tick) (h i) f
  of_jump Q t h (Share i j s) o f = absurd (omega (arith, o.kind))
  of_jump Q t h (Swap i j s) o f = absurd (omega (arith, o.kind))
  of_jump Q t h (Rotation robots s) o f = absurd (omega (arith, o.kind))

  pub of_share : (Q : Unsound → Type 0) (t : ℕ) → ((i j : ℕ) → IsFault grid plan (Share i j t) → Q (Share i j t)) → (u : Unsound) → IsOf t 3 u → IsFault grid plan u → Q u
  of_share Q t h (TooLarge w c) o f = absurd (omega (arith, o.kind))
  of_share Q t h (Blocked i s) o f = absurd (omega (arith, o.kind))
  of_share Q t h (Jump i s) o f = absurd (omega (arith, o.kind))
  of_share Q t h (Share i j s) o f = subst (λ (w : ℕ). IsFault grid plan (Share i j w) → Q (Share i j w)) (sym o.tick) (h i j) f
  of_share Q t h (Swap i j s) o f = absurd (omega (arith, o.kind))
  of_share Q t h (Rotation robots s) o f = absurd (omega (arith, o.kind))

  pub of_swap : (Q : Unsound → Type 0) (t : ℕ) → ((i j : ℕ) → IsFault grid plan (Swap i j t) → Q (Swap i j t)) → (u : Unsound) → IsOf t 4 u → IsFault grid plan u → Q u
  of_swap Q t h (TooLarge w c) o f = absurd (omega (arith, o.kind))
  of_swap Q t h (Blocked i s) o f = absurd (omega (arith, o.kind))
  of_swap Q t h (Jump i s) o f = absurd (omega (arith, o.kind))
  of_swap Q t h (Share i j s) o f = absurd (omega (arith, o.kind))
  of_swap Q t h (Swap i j s) o f = subst (λ (w : ℕ). IsFault grid plan (Swap i j w) → Q (Swap i j w)) (sym o.tick) (h i j) f
  of_swap Q t h (Rotation robots s) o f = absurd (omega (arith, o.kind))

  pub of_rotation : (Q : Unsound → Type 0) (t : ℕ) → ((robots : List ℕ) → IsFault grid plan (Rotation robots t) → Q (Rotation robots t)) → (u : Unsound) → IsOf t 5 u → IsFault grid plan u → Q u
  of_rotation Q t h (TooLarge w c) o f = absurd (omega (arith, o.kind))
  of_rotation Q t h (Blocked i s) o f = absurd (omega (arith, o.kind))
  of_rotation Q t h (Jump i s) o f = absurd (omega (arith, o.kind))
  of_rotation Q t h (Share i j s) o f = absurd (omega (arith, o.kind))
  of_rotation Q t h (Swap i j s) o f = absurd (omega (arith, o.kind))
  of_rotation Q t h (Rotation robots s) o f = subst (λ (w : ℕ). IsFault grid plan (Rotation robots w) → Q (Rotation robots w)) (sym o.tick) (h robots) f
