-- A plan is accepted exactly where it has no fault.
use Rattle.std.proofs.Common.{ℕ, suc, zero, ◌≡◌, ◌-◌, ◌<◌, ◌≤◌, ◌⊎◌, List, [], refl, sym, ap, subst, inl, inr, arith, length}
use Rattle.std.specs.Prelude.{All, sum_by, IsTrue}
use Rattle.std.proofs.lemmas.Bool.{cases_lt, true_from_ne_false}
use Rattle.std.proofs.lemmas.List.{get_or_default}
use Rattle.fleet_base.specs.declared.geometry.Cell.{Cell}
use Rattle.fleet_base.specs.Lists.{row_of}
use Rattle.fleet_base.specs.Grid.{OccupancyGrid, is_free, distance}
use Rattle.fleet_base.specs.Plan.{HasRobots, cell_at, visits_of, IsRotation, IsWithinLimits, IsAccepted}
use Rattle.plan_check.specs.declared.fault.Large.TheVariants.{Robots, Ticks, Visits}
use Rattle.plan_check.specs.declared.fault.Unsound.TheVariants.{TooLarge, Blocked, Jump, Share, Swap, Rotation}
use Rattle.plan_check.specs.Faults.{IsTooLarge, too_many_robots, too_many_ticks, too_many_visits, IsFaultless}
use Rattle.plan_check.proofs.Staying.{stays_from}

-- what holds of each row holds of each element
pub all_rows : {X : Type 0} (P : List X → Type 0) (xs : List (List X)) → ((i : ℕ) → i < length xs → P (row_of xs i)) → All P xs
all_rows {X} P xs h k d lt = subst (λ (w : List X). P w) (get_or_default xs k [] d lt) (h k lt)

distance_none : (a b : Cell) → a ≡ b → distance a b ≤ 1
distance_none a b e =
    let r : a.row ≡ b.row = ap (λ (c : Cell). c.row) e in
    let c : a.col ≡ b.col = ap (λ (c : Cell). c.col) e in
    omega arith

module _ (grid : OccupancyGrid) (plan : List (List Cell)) where
  -- a plan that is accepted is not too large
  pub not_large : IsWithinLimits plan → (w : _) (c : ℕ) → IsTooLarge plan c w → ⊥
  not_large limits Robots c (too_many_robots h e) = let r = limits.robots.1 in omega arith
  not_large limits Ticks c (too_many_ticks h i lt long e before) = let p = (limits.paths i [] lt).1 in omega arith
  not_large limits Visits c (too_many_visits h all many e) = let v = limits.visits in omega arith

  pub accepted_faultless : IsAccepted grid plan → IsFaultless grid plan
  accepted_faultless a (TooLarge w c) f = not_large a.limits w c f
  accepted_faultless a (Blocked i t) f = let e = a.sound.free i t f.0 in let g = f.2 in cc
  accepted_faultless a (Jump i t) f =
      let e : suc (t - 1) ≡ t = let h = f.1 in omega arith in
      let near : distance (cell_at plan i (t - 1)) (cell_at plan i t) ≤ 1 = subst (λ (w : ℕ). distance (cell_at plan i (t - 1)) (cell_at plan i w) ≤ 1) e (a.sound.steps i (t - 1) f.0) in
      let far = f.3 in
      omega arith
  accepted_faultless a (Share i j t) f = a.sound.apart.shares i j t f.0 f.1 f.2
  accepted_faultless a (Swap i j t) f =
      let e : t ≡ suc (t - 1) = let h = f.2 in omega arith in
      let one : cell_at plan i (suc (t - 1)) ≡ cell_at plan j (t - 1) = subst (λ (w : ℕ). cell_at plan i w ≡ cell_at plan j (t - 1)) e f.3 in
      let two : cell_at plan j (suc (t - 1)) ≡ cell_at plan i (t - 1) = subst (λ (w : ℕ). cell_at plan j w ≡ cell_at plan i (t - 1)) e f.4 in
      a.sound.apart.swaps i j (t - 1) f.0 f.1 one two
  accepted_faultless a (Rotation robots t) f = a.sound.apart.rotations (t - 1) robots f.1

  module _ (robots : HasRobots plan) (none : IsFaultless grid plan) where
    few_robots : length plan ≤ 256
    few_robots = go (cases_lt 256 (length plan))
      where
        go : (256 < length plan) ⊎ (length plan ≤ 256) → length plan ≤ 256
        go (inl lt) = absurd (none (TooLarge Robots (length plan)) (too_many_robots lt refl))
        go (inr le) = le

    early_below : (i j : ℕ) → j < i → j < length plan → length (row_of plan j) ≤ 4097
    early_below zero j lt h = absurd (omega (arith, lt))
    early_below (suc i) j lt h = go (cases_lt 4097 (length (row_of plan j))) (λ k less. early_below i k (omega (arith, less, lt)) (omega (arith, less, h)))
      where
        go : (4097 < length (row_of plan j)) ⊎ (length (row_of plan j) ≤ 4097) → ((k : ℕ) → k < j → length (row_of plan k) ≤ 4097) → length (row_of plan j) ≤ 4097
        go (inl long) before = absurd (none (TooLarge Ticks (length (row_of plan j) - 1)) (too_many_ticks few_robots j h long refl before))
        go (inr le) before = le

    early : (i : ℕ) → i < length plan → length (row_of plan i) ≤ 4097
    early i h = early_below (suc i) i (omega arith) h

    few_visits : sum_by length (visits_of plan) ≤ 65536
    few_visits = go (cases_lt 65536 (sum_by length (visits_of plan)))
      where
        go : (65536 < sum_by length (visits_of plan)) ⊎ (sum_by length (visits_of plan) ≤ 65536) → sum_by length (visits_of plan) ≤ 65536
        go (inl lt) = absurd (none (TooLarge Visits (sum_by length (visits_of plan))) (too_many_visits few_robots (all_rows (λ path. length path ≤ 4097) plan early) lt refl))
        go (inr le) = le

    there : (i : ℕ) → i < length plan → 1 ≤ length (row_of plan i)
    there i h = robots.cells i [] h

    free : (i t : ℕ) → i < length plan → IsTrue (is_free grid (cell_at plan i t))
    free i t h = go (cases_lt t (length (row_of plan i)))
      where
        listed : (s : ℕ) → s < length (row_of plan i) → IsTrue (is_free grid (cell_at plan i s))
        listed s lt = true_from_ne_false (is_free grid (cell_at plan i s)) (λ e. none (Blocked i s) (h, lt, e))

        go : (t < length (row_of plan i)) ⊎ (length (row_of plan i) ≤ t) → IsTrue (is_free grid (cell_at plan i t))
        go (inl lt) = listed t lt
        go (inr le) =
            let one = there i h in
            let last : length (row_of plan i) - 1 < length (row_of plan i) = omega arith in
            let e : cell_at plan i t ≡ cell_at plan i (length (row_of plan i) - 1) = stays_from plan i (length (row_of plan i) - 1) t (omega arith) (omega arith) in
            subst (λ (c : Cell). IsTrue (is_free grid c)) (sym e) (listed (length (row_of plan i) - 1) last)

    steps : (i t : ℕ) → i < length plan → distance (cell_at plan i t) (cell_at plan i (suc t)) ≤ 1
    steps i t h = go (cases_lt (suc t) (length (row_of plan i)))
      where
        go : (suc t < length (row_of plan i)) ⊎ (length (row_of plan i) ≤ suc t) → distance (cell_at plan i t) (cell_at plan i (suc t)) ≤ 1
        go (inr le) = distance_none (cell_at plan i t) (cell_at plan i (suc t)) (sym (stays_from plan i t (suc t) le (omega arith)))
        go (inl lt) = near (cases_lt 1 (distance (cell_at plan i t) (cell_at plan i (suc t))))
          where
            near : (1 < distance (cell_at plan i t) (cell_at plan i (suc t))) ⊎ (distance (cell_at plan i t) (cell_at plan i (suc t)) ≤ 1) → distance (cell_at plan i t) (cell_at plan i (suc t)) ≤ 1
            near (inr le) = le
            near (inl far) =
                let e : t ≡ suc t - 1 = omega arith in
                absurd (none (Jump i (suc t)) (h, omega arith, lt, subst (λ (w : ℕ). 1 < distance (cell_at plan i w) (cell_at plan i (suc t))) e far))

    pub faultless_accepted : IsAccepted grid plan
    faultless_accepted = record {
      sound = record {
        free = free;
        steps = steps;
        apart = record {
          shares = λ i j t lt h e. none (Share i j t) (lt, h, e);
          swaps = λ i j t lt h e k.
              let s : t ≡ suc t - 1 = omega arith in
              none (Swap i j (suc t)) (lt, h, omega arith, subst (λ (w : ℕ). cell_at plan i (suc t) ≡ cell_at plan j w) s e, subst (λ (w : ℕ). cell_at plan j (suc t) ≡ cell_at plan i w) s k);
          rotations = λ t robots r.
              let s : t ≡ suc t - 1 = omega arith in
              none (Rotation robots (suc t)) (omega arith, subst (λ (w : ℕ). IsRotation plan w robots) s r);
        };
      };
      limits = record {
        robots = (robots.robots, few_robots);
        paths = all_rows (λ path. (1 ≤ length path) × (length path ≤ 4097)) plan (λ i h. (there i h, early i h));
        visits = few_visits;
      };
    }
