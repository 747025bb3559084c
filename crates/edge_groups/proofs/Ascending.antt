-- Lists in which a number rises from each element to the next, and that the pairs of a plan are such a list by their ranks.
use Rattle.std.proofs.Common.{ℕ, suc, zero, ◌≡◌, ◌+◌, ◌-◌, ◌<◌, ◌≤◌, ◌⊎◌, List, [], ◌∷◌, ◌++◌, Some, true, false, Bool, cond, sym, ap, subst, inl, inr, arith, length}
use Rattle.std.specs.Prelude.{Contains, slice_get, flat_map}
use Rattle.std.specs.List.{range_with_len}
use Rattle.std.proofs.lemmas.List.Elements.{Contains-append_cases}
use Rattle.fleet_base.specs.Lists.{range, row_of}
use Rattle.fleet_base.specs.declared.geometry.Visit.{Visit}
use Rattle.fleet_base.specs.declared.geometry.PlannedVisit.{PlannedVisit}
use Rattle.fleet_base.specs.declared.order.Pair.{Pair}
use Rattle.fleet_base.specs.Grid.{same_cell}
use Rattle.fleet_base.specs.Plan.{cell_of}
use Rattle.fleet_base.specs.Pairs.{pairs_of, pairs_between, pairs_with, pair_of, plan_side_of}
use Rattle.fleet_base.proofs.Members.{head_in, tail_in, in_one, in_none, from_flat_map, from_range, element_at}
use Rattle.edge_groups.specs.Ranks.{rank_of}

abbrev visit : ℕ → ℕ → Visit
visit i k = record { robot = i; index = k }

-- each element has a smaller number than those after it
abbrev pub Ascends : {X : Type 0} → (X → ℕ) → List X → Type 0
Ascends n [] = Unit {0}
Ascends {X} n (x ∷ xs) = ((y : X) → Contains xs y → n x < n y) × Ascends n xs

pub ascends_append : {X : Type 0} (n : X → ℕ) (xs ys : List X) → Ascends n xs → Ascends n ys → ((x y : X) → Contains xs x → Contains ys y → n x < n y) → Ascends n (xs ++ ys)
ascends_append n [] ys a b h = b
ascends_append {X} n (x ∷ xs) ys a b h = (first, ascends_append n xs ys a.1 b (λ z y in_xs in_ys. h z y (tail_in x xs z in_xs) in_ys))
  where
    first : (y : X) → Contains (xs ++ ys) y → n x < n y
    first y c = go (Contains-append_cases xs ys y c)
      where
        go : Contains xs y ⊎ Contains ys y → n x < n y
        go (inl l) = a.0 y l
        go (inr r) = h x y (head_in x xs) r

-- the earlier of two elements has the smaller number
pub ascends_at : {X : Type 0} (n : X → ℕ) (xs : List X) → Ascends n xs → (j k : ℕ) (x y : X) → slice_get xs j ≡ Some x → slice_get xs k ≡ Some y → j < k → n x < n y
ascends_at n [] s j k x y ex ey lt = cc
ascends_at n (z ∷ zs) s zero zero x y ex ey lt = absurd (omega (arith, lt))
ascends_at {X} n (z ∷ zs) s zero (suc k) x y ex ey lt =
    let e : z ≡ x = cc in
    subst (λ (w : X). n w < n y) e (s.0 y (element_at zs k y ey))
ascends_at n (z ∷ zs) s (suc j) zero x y ex ey lt = absurd (omega (arith, lt))
ascends_at n (z ∷ zs) s (suc j) (suc k) x y ex ey lt = ascends_at n zs s.1 j k x y ex ey (omega (arith, lt))

module _ {X : Type 0} (n : X → ℕ) (f : ℕ → List X) where
  parts_ascend : (from count : ℕ) → ((m : ℕ) → from ≤ m → m < from + count → Ascends n (f m))
      → ((j k : ℕ) (x y : X) → from ≤ j → j < k → k < from + count → Contains (f j) x → Contains (f k) y → n x < n y)
      → Ascends n (flat_map f (range_with_len from count))
  parts_ascend from zero each apart = tt
  parts_ascend from (suc count) each apart =
      ascends_append n (f from) (flat_map f (range_with_len (from + 1) count)) (each from (omega arith) (omega arith))
      (parts_ascend (from + 1) count (λ m low high. each m (omega (arith, low)) (omega (arith, high))) (λ j k x y low lt high. apart j k x y (omega (arith, low)) lt (omega (arith, high))))
      (λ x y in_first in_rest.
      let p = from_flat_map f (range_with_len (from + 1) count) y in_rest in
      let b = bounds (from + 1) count p.0 p.1 in
      apart from p.0 x y (omega arith) (omega (arith, b.0)) (omega (arith, b.1)) in_first p.2)
    where
      bounds : (a c m : ℕ) → Contains (range_with_len a c) m → (a ≤ m) × (m < a + c)
      bounds a c m h = let e : (a + c) - a ≡ c = omega arith in let r = from_range a (a + c) m (subst (λ (d : ℕ). Contains (range_with_len a d) m) (sym e) h) in r

  -- lists that ascend, each below the next, put together
  pub joined_ascend : (from to : ℕ) → ((m : ℕ) → from ≤ m → m < to → Ascends n (f m))
      → ((j k : ℕ) (x y : X) → from ≤ j → j < k → k < to → Contains (f j) x → Contains (f k) y → n x < n y)
      → Ascends n (flat_map f (range from to))
  joined_ascend from to each apart =
      parts_ascend from (to - from) (λ m low high. each m low (omega (arith, low, high))) (λ j k x y low lt high. apart j k x y low lt (omega (arith, low, lt, high)))

module _ (routes : List (List PlannedVisit)) (robots : length routes ≤ 256) (short : (i : ℕ) → length (row_of routes i) ≤ 65536) where
  of_pair : (u v : Visit) (p : Pair) → Contains (pair_of routes u v) p → (p.lower ≡ u) × (p.higher ≡ v)
  unfolding pair_of
  of_pair u v p h = go (same_cell (cell_of routes u) (cell_of routes v)) h
    where
      the_pair : Pair
      the_pair = record { lower = u; higher = v; first = plan_side_of routes u v }

      go : (b : Bool) → Contains (cond b (record { lower = u; higher = v; first = plan_side_of routes u v } ∷ []) []) p → (p.lower ≡ u) × (p.higher ≡ v)
      go true k = let e = in_one (record { lower = u; higher = v; first = plan_side_of routes u v }) p k in (sym (ap (λ (x : Pair). x.lower) e), sym (ap (λ (x : Pair). x.higher) e))
      go false k = absurd (in_none p k)

  one_ascends : (u v : Visit) → Ascends rank_of (pair_of routes u v)
  unfolding pair_of
  one_ascends u v = go (same_cell (cell_of routes u) (cell_of routes v))
    where
      go : (b : Bool) → Ascends rank_of (cond b (record { lower = u; higher = v; first = plan_side_of routes u v } ∷ []) [])
      go true = (λ y c. absurd (in_none y c), tt)
      go false = tt

  -- a pair of a visit with a robot
  record IsWith (u : Visit) (j : ℕ) (p : Pair) : Type 0 where
    lower : p.lower ≡ u
    robot : p.higher.robot ≡ j
    small : p.higher.index < 65536

  of_with : (u : Visit) (j : ℕ) (p : Pair) → Contains (pairs_with routes u j) p → IsWith u j p
  unfolding pairs_with
  of_with u j p h =
      let a = from_flat_map (λ m. pair_of routes u (visit j m)) (range 0 (length (row_of routes j))) p h in
      let b = of_pair u (visit j a.0) p a.2 in
      let c = from_range 0 (length (row_of routes j)) a.0 a.1 in
      record { lower = b.0; robot = ap (λ (v : Visit). v.robot) b.1; small = omega (arith, ap (λ (v : Visit). v.index) b.1, c.1, short j) }

  with_ascends : (u : Visit) (j : ℕ) → Ascends rank_of (pairs_with routes u j)
  unfolding pairs_with
  with_ascends u j =
      joined_ascend rank_of (λ m. pair_of routes u (visit j m)) 0 (length (row_of routes j)) (λ m low high. one_ascends u (visit j m))
      (λ m m' x y low lt high in_x in_y.
      let a = of_pair u (visit j m) x in_x in
      let b = of_pair u (visit j m') y in_y in
      omega (
        arith,
        lt,
        ap (λ (v : Visit). v.robot) a.0,
        ap (λ (v : Visit). v.index) a.0,
        ap (λ (v : Visit). v.robot) a.1,
        ap (λ (v : Visit). v.index) a.1,
        ap (λ (v : Visit). v.robot) b.0,
        ap (λ (v : Visit). v.index) b.0,
        ap (λ (v : Visit). v.robot) b.1,
        ap (λ (v : Visit). v.index) b.1,
      ))

  -- a pair of two robots
  record IsBetween (i j : ℕ) (p : Pair) : Type 0 where
    lower : p.lower.robot ≡ i
    higher : p.higher.robot ≡ j
    early : p.lower.index < 65536
    small : p.higher.index < 65536

  of_between : (i j : ℕ) (p : Pair) → Contains (pairs_between routes i j) p → IsBetween i j p
  unfolding pairs_between
  of_between i j p h =
      let a = from_flat_map (λ k. pairs_with routes (visit i k) j) (range 0 (length (row_of routes i))) p h in
      let b = of_with (visit i a.0) j p a.2 in
      let c = from_range 0 (length (row_of routes i)) a.0 a.1 in
      record { lower = ap (λ (v : Visit). v.robot) b.lower; higher = b.robot; early = omega (arith, ap (λ (v : Visit). v.index) b.lower, c.1, short i); small = b.small }

  between_ascends : (i j : ℕ) → Ascends rank_of (pairs_between routes i j)
  unfolding pairs_between
  between_ascends i j =
      joined_ascend rank_of (λ k. pairs_with routes (visit i k) j) 0 (length (row_of routes i)) (λ k low high. with_ascends (visit i k) j)
      (λ k k' x y low lt high in_x in_y.
      let a = of_with (visit i k) j x in_x in
      let b = of_with (visit i k') j y in_y in
      omega (arith, lt, ap (λ (v : Visit). v.robot) a.lower, ap (λ (v : Visit). v.index) a.lower, a.robot, a.small, ap (λ (v : Visit). v.robot) b.lower, ap (λ (v : Visit). v.index) b.lower, b.robot, b.small))

  of_robot : (i : ℕ) (p : Pair) → Contains (flat_map (pairs_between routes i) (range (i + 1) (length routes))) p → (j : ℕ) × IsBetween i j p × (j < 256)
  of_robot i p h =
      let a = from_flat_map (pairs_between routes i) (range (i + 1) (length routes)) p h in
      (a.0, of_between i a.0 p a.2, omega (arith, (from_range (i + 1) (length routes) a.0 a.1).1, robots))

  robot_ascends : (i : ℕ) → Ascends rank_of (flat_map (pairs_between routes i) (range (i + 1) (length routes)))
  robot_ascends i =
      joined_ascend rank_of (pairs_between routes i) (i + 1) (length routes) (λ j low high. between_ascends i j)
      (λ j k x y low lt high in_x in_y.
      let a = of_between i j x in_x in
      let b = of_between i k y in_y in
      omega (arith, lt, a.lower, a.higher, a.early, a.small, b.lower, b.higher, b.early, b.small))

  -- the ranks of a plan's pairs ascend
  pub pairs_ascend : Ascends rank_of (pairs_of routes)
  unfolding pairs_of
  pairs_ascend =
      joined_ascend rank_of (λ i. flat_map (pairs_between routes i) (range (i + 1) (length routes))) 0 (length routes) (λ i low high. robot_ascends i)
      (λ i k x y low lt high in_x in_y.
      let a = of_robot i x in_x in
      let b = of_robot k y in_y in
      omega (arith, lt, a.1.lower, a.1.higher, a.2, a.1.early, a.1.small, b.1.lower, b.1.higher, b.2, b.1.early, b.1.small))
