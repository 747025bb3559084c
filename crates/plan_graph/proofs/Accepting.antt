-- A plan that passes a test at each of its ticks is accepted. The plans of the tests are shown accepted so, by computation.
use Rattle.std.proofs.Common.{ℕ, suc, zero, ◌≡◌, ◌≢◌, ◌+◌, ◌-◌, ◌<◌, ◌≤◌, ◌⊎◌, min, List, [], ◌∷◌, true, false, Bool, refl, sym, ap, ◌∙◌, subst, inl, inr, arith, length, get_or}
use Rattle.std.specs.Prelude.{not, ◌&&◌, ◌||◌, sum_by, nat_lt, nat_le}
use Rattle.std.proofs.lemmas.Bool.{and_parts, and_from, or_cases, not-true, leb-true, lt-ltb, cases_lt, false≢true}
use Rattle.std.proofs.lemmas.List.Elements.{All-from_get_or}
use Rattle.fleet_base.specs.declared.geometry.Cell.{Cell}
use Rattle.fleet_base.specs.Lists.{Chain, row_of}
use Rattle.fleet_base.specs.Grid.{OccupancyGrid, is_free, distance, same_cell}
use Rattle.fleet_base.specs.Plan.{cell_at, no_cell, visits_of, Follows, IsRotation, IsAccepted}
use Rattle.fleet_base.proofs.PairLaws.{same_cell-refl, same_cell_true}
use Rattle.fleet_base.specs.Limits.{robot_limit, tick_limit, visit_limit}

-- each number below n passes
abbrev pub all_below : ℕ → (ℕ → Bool) → Bool
all_below zero test = true
all_below (suc n) test = test n && all_below n test

all_below-at : (n : ℕ) (test : ℕ → Bool) → all_below n test ≡ true → (k : ℕ) → k < n → test k ≡ true
all_below-at zero test all k lt = absurd (omega (arith, lt))
all_below-at (suc n) test all k lt =
    let both = and_parts (test n) (all_below n test) all in
    go both.0 (all_below-at n test both.1 k) (cases_lt k n)
  where
    go : test n ≡ true → (k < n → test k ≡ true) → (k < n) ⊎ (n ≤ k) → test k ≡ true
    go top rest (inl less) = rest less
    go top rest (inr most) = let e : n ≡ k = omega arith in subst (λ (m : ℕ). test m ≡ true) e top

-- ---- the tests

-- a path is not empty, and ends at this tick or before
abbrev pub path_test : List (List Cell) → ℕ → ℕ → Bool
path_test plan last i = nat_le 1 (length (row_of plan i)) && nat_le (length (row_of plan i)) (last + 1)

-- a robot is in a free cell, and stays or goes to a neighbour
abbrev pub robot_test : OccupancyGrid → List (List Cell) → ℕ → ℕ → Bool
robot_test grid plan t i = is_free grid (cell_at plan i t) && nat_le (distance (cell_at plan i t) (cell_at plan i (suc t))) 1

-- two robots neither share a cell nor swap
abbrev pub pair_test : List (List Cell) → ℕ → ℕ → ℕ → Bool
pair_test plan t i j = not (nat_lt i j) || (not (same_cell (cell_at plan i t) (cell_at plan j t)) && not (same_cell (cell_at plan i (suc t)) (cell_at plan j t) && same_cell (cell_at plan j (suc t)) (cell_at plan i t)))

-- one robot moves into the cell of another
abbrev pub follows_test : List (List Cell) → ℕ → ℕ → ℕ → Bool
follows_test plan t i j = not (same_cell (cell_at plan i (suc t)) (cell_at plan i t)) && same_cell (cell_at plan i (suc t)) (cell_at plan j t)

-- all of it, and no robot follows one that follows
abbrev pub tick_test : OccupancyGrid → List (List Cell) → ℕ → ℕ → Bool
tick_test grid plan n t =
    all_below n (λ i. robot_test grid plan t i && all_below n (λ j. pair_test plan t i j && all_below n (λ k. not (follows_test plan t i j && follows_test plan t j k))))

module _ (grid : OccupancyGrid) (plan : List (List Cell)) (last : ℕ)
    (paths : all_below (length plan) (path_test plan last) ≡ true) (ticks : all_below (suc last) (tick_test grid plan (length plan)) ≡ true) where
  path : (i : ℕ) → i < length plan → (1 ≤ length (row_of plan i)) × (length (row_of plan i) ≤ last + 1)
  path i here =
      let both = and_parts (nat_le 1 (length (row_of plan i))) (nat_le (length (row_of plan i)) (last + 1)) (all_below-at (length plan) (path_test plan last) paths i here) in
      (leb-true _ _ both.0, leb-true _ _ both.1)

  -- after the last tick nothing changes
  settled : (i t : ℕ) → i < length plan → last ≤ t → cell_at plan i t ≡ cell_at plan i last
  settled i t here late =
      let end : min t (length (row_of plan i) - 1) ≡ min last (length (row_of plan i) - 1) = omega (arith, (path i here).1, late) in
      ap (λ (m : ℕ). get_or (row_of plan i) m no_cell) end

  -- a tick at which all is as at this one, and which was tested
  record SameTick (t : ℕ) : Type 0 where
    pub tick : ℕ
    pub tested : tick < suc last
    pub here : (i : ℕ) → i < length plan → cell_at plan i t ≡ cell_at plan i tick
    pub next : (i : ℕ) → i < length plan → cell_at plan i (suc t) ≡ cell_at plan i (suc tick)

  same_tick : (t : ℕ) → SameTick t
  same_tick t = go (cases_lt last t)
    where
      go : (last < t) ⊎ (t ≤ last) → SameTick t
      go (inr low) = record { tick = t; tested = omega arith; here = λ i h. refl; next = λ i h. refl }
      go (inl late) = record {
        tick = last;
        tested = omega arith;
        here = λ i h. settled i t h (omega arith);
        next = λ i h. settled i (suc t) h (omega arith) ∙ sym (settled i (suc last) h (omega arith));
      }

  at_robot : (t i : ℕ) → t < suc last → i < length plan → (robot_test grid plan t i ≡ true)
      × (all_below (length plan) (λ j. pair_test plan t i j && all_below (length plan) (λ k. not (follows_test plan t i j && follows_test plan t j k))) ≡ true)
  at_robot t i tested here = and_parts (robot_test grid plan t i) _ (all_below-at (length plan) _ (all_below-at (suc last) (tick_test grid plan (length plan)) ticks t tested) i here)

  at_pair : (t i j : ℕ) → t < suc last → i < length plan → j < length plan → (pair_test plan t i j ≡ true) × (all_below (length plan) (λ k. not (follows_test plan t i j && follows_test plan t j k)) ≡ true)
  at_pair t i j tested here there = and_parts (pair_test plan t i j) _ (all_below-at (length plan) _ (at_robot t i tested here).1 j there)

  free : (i t : ℕ) → i < length plan → is_free grid (cell_at plan i t) ≡ true
  free i t here =
      let s = same_tick t in
      ap (is_free grid) (s.here i here) ∙ (and_parts (is_free grid (cell_at plan i s.tick)) _ (at_robot s.tick i s.tested here).0).0

  steps : (i t : ℕ) → i < length plan → distance (cell_at plan i t) (cell_at plan i (suc t)) ≤ 1
  steps i t here =
      let s = same_tick t in
      let at : distance (cell_at plan i s.tick) (cell_at plan i (suc s.tick)) ≤ 1 = leb-true _ _ (and_parts (is_free grid (cell_at plan i s.tick)) _ (at_robot s.tick i s.tested here).0).1 in
      let e : distance (cell_at plan i t) (cell_at plan i (suc t)) ≡ distance (cell_at plan i s.tick) (cell_at plan i (suc s.tick)) = λ k. distance (s.here i here k) (s.next i here k) in
      subst (λ (d : ℕ). d ≤ 1) (sym e) at

  same : (a b : Cell) → a ≡ b → same_cell a b ≡ true
  same a b e = subst (λ (c : Cell). same_cell a c ≡ true) e (same_cell-refl a)

  clash : (b : Bool) → not b ≡ true → b ≡ true → ⊥
  clash b n y = false≢true (sym (not-true b n) ∙ y)

  apart : (i j t : ℕ) → i < j → i < length plan → j < length plan → t < suc last
      → (not (same_cell (cell_at plan i t) (cell_at plan j t)) ≡ true) × (not (same_cell (cell_at plan i (suc t)) (cell_at plan j t) && same_cell (cell_at plan j (suc t)) (cell_at plan i t)) ≡ true)
  apart i j t lt here there tested = and_parts _ _ (go (or_cases (not (nat_lt i j)) _ (at_pair t i j tested here there).0))
    where
      go : {b : Bool} → (not (nat_lt i j) ≡ true) ⊎ (b ≡ true) → b ≡ true
      go (inl n) = absurd (clash (nat_lt i j) n (lt-ltb i j lt))
      go (inr y) = y

  shares : (i j t : ℕ) → i < j → j < length plan → cell_at plan i t ≢ cell_at plan j t
  shares i j t lt there e =
      let here : i < length plan = omega arith in
      let s = same_tick t in
      clash _ (apart i j s.tick lt here there s.tested).0 (same _ _ (sym (s.here i here) ∙ e ∙ s.here j there))

  swaps : (i j t : ℕ) → i < j → j < length plan → cell_at plan i (suc t) ≡ cell_at plan j t → cell_at plan j (suc t) ≢ cell_at plan i t
  swaps i j t lt there a b =
      let here : i < length plan = omega arith in
      let s = same_tick t in
      clash _ (apart i j s.tick lt here there s.tested).1 (and_from _ _ (same _ _ (sym (s.next i here) ∙ a ∙ s.here j there)) (same _ _ (sym (s.next j there) ∙ b ∙ s.here i here)))

  first_here : (t x : ℕ) (xs : List ℕ) (z : ℕ) → Chain (Follows plan t) x xs z → x < length plan
  first_here t x [] z c = c.here
  first_here t x (y ∷ ys) z c = c.0.here

  follows : (t i j : ℕ) (s : SameTick t) → j < length plan → Follows plan t i j → follows_test plan s.tick i j ≡ true
  follows t i j s there f =
      let changed : same_cell (cell_at plan i (suc s.tick)) (cell_at plan i s.tick) ≡ true → ⊥ = λ e. f.changes (s.next i f.here ∙ same_cell_true _ _ e ∙ sym (s.here i f.here)) in
      and_from _ _ (differs _ changed) (same _ _ (sym (s.next i f.here) ∙ f.enters ∙ s.here j there))
    where
      differs : (b : Bool) → (b ≡ true → ⊥) → not b ≡ true
      differs true n = absurd (n refl)
      differs false n = refl

  rotations : (t : ℕ) (robots : List ℕ) → IsRotation plan t robots → ⊥
  rotations t [] r = absurd (omega (arith, r.three))
  rotations t (a ∷ []) r = absurd (omega (arith, r.three))
  rotations t (a ∷ b ∷ []) r = absurd (omega (arith, r.three))
  rotations t (a ∷ b ∷ c ∷ rest) r =
      let s = same_tick t in
      let ab = r.round.0 in
      let bc = r.round.1.0 in
      let there = first_here t c rest a r.round.1.1 in
      let none = all_below-at (length plan) (λ k. not (follows_test plan s.tick a b && follows_test plan s.tick b k)) (at_pair s.tick a b s.tested ab.here bc.here).1 c there in
      clash _ none (and_from _ _ (follows t a b s bc.here ab) (follows t b c s there bc))

  pub accepted : (1 ≤ length plan) → (length plan ≤ robot_limit) → (last ≤ tick_limit) → sum_by (λ route. length route) (visits_of plan) ≤ visit_limit → IsAccepted grid plan
  accepted some few short small = record {
    sound = record { free = free; steps = steps; apart = record { shares = shares; swaps = swaps; rotations = rotations } };
    limits = record {
      robots = (some, few);
      paths = All-from_get_or (λ (path : List Cell). (1 ≤ length path) × (length path ≤ tick_limit + 1)) plan [] (λ i h. ((path i h).0, omega (arith, (path i h).1, short)));
      visits = small;
    };
  }
