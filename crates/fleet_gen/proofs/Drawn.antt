-- The roads that are drawn lie on the map, begin and end in rows of their own, and stay free.
use Rattle.std.proofs.Common.{ℕ, suc, zero, ◌≡◌, ◌≢◌, ◌+◌, ◌-◌, ◌*◌, ◌/◌, ◌%◌, ◌<◌, ◌≤◌, ◌⊎◌, List, Bool, true, false, refl, sym, ap, ◌∙◌, subst, inl, inr, arith, length, min, max, get_or, set}
use Rattle.std.specs.Prelude.{◌&&◌, ◌||◌}
use Rattle.std.specs.List.{swap, list_any, range_with_len}
use Rattle.std.proofs.lemmas.Bool.{cases_eq, cases_lt, lt-ltb, le-leb, eq-eqb, and_from, or_left, or_right}
use Rattle.std.proofs.lemmas.List.{get_or-set_other, get_or-set_same, length-set}
use Rattle.std.proofs.lemmas.List.Edits.{swap_is}
use Rattle.std.proofs.lemmas.List.Folds.{list_any_at}
use Rattle.std.proofs.lemmas.List.FromFn.{length-range_with_len, get_or-range_with_len, length-map-range_with_len, get_or-map-range_with_len}
use Rattle.fleet_base.specs.declared.geometry.Cell.{Cell}
use Rattle.fleet_base.specs.Grid.{OccupancyGrid}
use Rattle.fleet_gen.specs.declared.road.Road.{Road}
use Rattle.fleet_gen.specs.Roads.{IsRoad, rows_of, cell_after, is_on_road}
use Rattle.fleet_gen.specs.Draws.{shuffled, road_of, roads_of, stays_free, marks_of}
use Rattle.fleet_gen.specs.Departures.{no_road, road_at, IsFreeRoad, AreRoads}
use Rattle.fleet_gen.proofs.Courses.{same_parts, first_row, first_col, across_col, last_row, last_col, on_map_row, on_map_col}

-- ---- the numbers 0 to 31 in some order
record Arranged (xs : List ℕ) : Type 0 where
  size : length xs ≡ 32
  within : (k : ℕ) → k < 32 → get_or xs k 0 < 32
  once : (j k : ℕ) → j < 32 → k < 32 → get_or xs j 0 ≡ get_or xs k 0 → j ≡ k

in_order : Arranged (range_with_len 0 32)
in_order = record {
  size = length-range_with_len 0 32;
  within = λ k h. omega (arith, h, get_or-range_with_len 0 32 k 0 h);
  once = λ j k hj hk e. omega (arith, get_or-range_with_len 0 32 j 0 hj, get_or-range_with_len 0 32 k 0 hk, e);
}

-- where an element stood before an exchange
abbrev Came : (a b k from : ℕ) → Type 0
Came a b k from = ((k ≡ b) × (from ≡ a)) ⊎ (((k ≢ b) × (k ≡ a) × (from ≡ b)) ⊎ ((k ≢ b) × (k ≢ a) × (from ≡ k)))

one_place : (a b j k m n : ℕ) → Came a b j m → Came a b k n → m ≡ n → j ≡ k
one_place a b j k m n (inl p) (inl q) e = omega (arith, p.0, q.0)
one_place a b j k m n (inl p) (inr (inl q)) e = omega (arith, p.0, p.1, q.1, q.2, e)
one_place a b j k m n (inl p) (inr (inr q)) e = absurd (q.1 (sym q.2 ∙ (sym e ∙ p.1)))
one_place a b j k m n (inr (inl p)) (inl q) e = omega (arith, q.0, q.1, p.1, p.2, e)
one_place a b j k m n (inr (inl p)) (inr (inl q)) e = omega (arith, p.1, q.1)
one_place a b j k m n (inr (inl p)) (inr (inr q)) e = absurd (q.0 (sym q.2 ∙ (sym e ∙ p.2)))
one_place a b j k m n (inr (inr p)) (inl q) e = absurd (p.1 (sym p.2 ∙ (e ∙ q.1)))
one_place a b j k m n (inr (inr p)) (inr (inl q)) e = absurd (p.0 (sym p.2 ∙ (e ∙ q.2)))
one_place a b j k m n (inr (inr p)) (inr (inr q)) e = omega (arith, p.2, q.2, e)

module _ (xs : List ℕ) (a b : ℕ) (ha : a < 32) (hb : b < 32) (old : Arranged xs) where
  abbrev once_set : List ℕ
  once_set = set xs a (get_or xs b 0)

  wide : length once_set ≡ 32
  wide = length-set xs a (get_or xs b 0) ∙ old.size

  exchanged : swap xs a b ≡ set once_set b (get_or xs a 0)
  exchanged = let p : a < length xs = omega (arith, ha, old.size) in let q : b < length xs = omega (arith, hb, old.size) in sym (swap_is xs a b 0 p q)

  at : (k : ℕ) → k < 32 → (from : ℕ) × (from < 32) × (get_or (swap xs a b) k 0 ≡ get_or xs from 0) × Came a b k from
  at k h = go (cases_eq k b) (cases_eq k a)
    where
      here : get_or (swap xs a b) k 0 ≡ get_or (set once_set b (get_or xs a 0)) k 0
      here = ap (λ (ys : List ℕ). get_or ys k 0) exchanged

      go : (k ≡ b) ⊎ (k ≡ b → ⊥) → (k ≡ a) ⊎ (k ≡ a → ⊥) → (from : ℕ) × (from < 32) × (get_or (swap xs a b) k 0 ≡ get_or xs from 0) × Came a b k from
      go (inl e) o =
          let p : b < length once_set = omega (arith, hb, wide) in
          (a, ha, here ∙ (ap (λ (m : ℕ). get_or (set once_set b (get_or xs a 0)) m 0) e ∙ get_or-set_same once_set b (get_or xs a 0) 0 p), inl (e, refl))
      go (inr ne) (inl e) =
          let p : a < length xs = omega (arith, ha, old.size) in
          (b, hb, here ∙ (get_or-set_other once_set b k (get_or xs a 0) 0 ne ∙ (ap (λ (m : ℕ). get_or once_set m 0) e ∙ get_or-set_same xs a (get_or xs b 0) 0 p)), inr (inl (ne, e, refl)))
      go (inr ne) (inr off) =
          (k, h, here ∙ (get_or-set_other once_set b k (get_or xs a 0) 0 ne ∙ get_or-set_other xs a k (get_or xs b 0) 0 off), inr (inr (ne, off, refl)))

  rearranged : Arranged (swap xs a b)
  rearranged = record {
    size = ap length exchanged ∙ (length-set once_set b (get_or xs a 0) ∙ wide);
    within = λ k h. let s = at k h in let w = old.within s.0 s.1 in omega (arith, s.2, w);
    once = λ j k hj hk e.
        let s = at j hj in
        let t = at k hk in
        one_place a b j k s.0 t.0 s.3 t.3 (old.once s.0 t.0 s.1 t.1 (sym s.2 ∙ (e ∙ t.2)));
  }

module _ (words : ℕ → ℕ) where
  arranged : (n : ℕ) → n ≤ 31 → Arranged (shuffled words n)
  unfolding shuffled
  arranged zero h = in_order
  arranged (suc n) h = rearranged (shuffled words n) (31 - n) (words n % (32 - n)) (omega arith) (less (words n) (32 - n) (omega (arith, h)) (omega arith)) (arranged n (omega (arith, h)))
    where
      less : (x m : ℕ) → 0 < m → m ≤ 32 → x % m < 32
      less x m p le = omega (arith, p, le)

  -- ---- the roads
  pub length-roads : (n : ℕ) → length (roads_of words n) ≡ n
  unfolding roads_of
  length-roads n = length-map-range_with_len (road_of words) 0 n

  pub road_is : (n i : ℕ) → i < n → road_at (roads_of words n) i ≡ road_of words i
  unfolding roads_of
  road_is n i h = get_or-map-range_with_len (road_of words) 0 n i i no_road h (omega arith)

  drawn_row : (i : ℕ) → (road_of words i).row ≡ i
  unfolding road_of
  drawn_row i = refl

  drawn_goal : (i : ℕ) → (road_of words i).goal ≡ get_or (shuffled words 31) i 0
  unfolding road_of
  drawn_goal i = refl

  drawn_column : (i : ℕ) → (1 ≤ (road_of words i).column) × ((road_of words i).column ≤ 30)
  unfolding road_of
  drawn_column i = (omega arith, omega arith)

  lies : (i : ℕ) → i < 32 → IsRoad (road_of words i)
  lies i h =
      let w = (arranged 31 (omega arith)).within i h in
      record { row = omega (arith, h, drawn_row i); column = drawn_column i; goal = omega (arith, w, drawn_goal i) }

-- ---- a road goes through its cells
pub passes_on : (r : Road) → IsRoad r → (n : ℕ) → is_on_road r (cell_after r n) ≡ true
passes_on r lies n = go (cases_lt n r.column) (cases_lt n (r.column + rows_of r))
  where
    go : (n < r.column) ⊎ (r.column ≤ n) → (n < r.column + rows_of r) ⊎ (r.column + rows_of r ≤ n) → is_on_road r (cell_after r n) ≡ true
    go (inl lt) o =
        let row = eq-eqb (cell_after r n).row r.row (first_row r lies n (omega (arith, lt))) in
        let col = le-leb (cell_after r n).col r.column (omega (arith, first_col r lies n (omega (arith, lt)), lt)) in
        or_left _ _ (or_left _ _ (and_from _ _ row col))
    go (inr le) (inl lt) =
        let col = eq-eqb (cell_after r n).col r.column (across_col r lies n le (omega (arith, lt))) in
        let low = le-leb (min r.row r.goal) (cell_after r n).row (omega arith) in
        let high = le-leb (cell_after r n).row (max r.row r.goal) (omega arith) in
        or_left _ _ (or_right _ _ (and_from _ _ col (and_from _ _ low high)))
    go (inr le) (inr past) =
        let row = eq-eqb (cell_after r n).row r.goal (last_row r lies n past) in
        let bound = lies.column.1 in
        let col = le-leb r.column (cell_after r n).col (omega (arith, last_col r lies n past, past, bound)) in
        let end = le-leb (cell_after r n).col 31 (omega (arith, on_map_col r lies n)) in
        or_right _ _ (and_from _ _ row (and_from _ _ col end))

-- ---- and they stay free
module _ (roads : List Road) (words : ℕ → ℕ) where
  abbrev pub floor : OccupancyGrid
  floor = record { height = 32; width = 32; free = marks_of roads words 1024 }

  mark_at : (n k : ℕ) → k < n → get_or (marks_of roads words n) k false ≡ stays_free roads words k
  unfolding marks_of
  mark_at n k h = get_or-map-range_with_len (stays_free roads words) 0 n k k false h (omega arith)

  pub length-marks : (n : ℕ) → length (marks_of roads words n) ≡ n
  unfolding marks_of
  length-marks n = length-map-range_with_len (stays_free roads words) 0 n

  free_on_road : (k : ℕ) → list_any (λ road. is_on_road road (record { row = k / 32; col = k % 32 })) roads ≡ true → stays_free roads words k ≡ true
  unfolding stays_free
  free_on_road k e = or_left _ _ e

  the_cell : (c : Cell) → c.col < 32 → record { row = (c.row * 32 + c.col) / 32; col = (c.row * 32 + c.col) % 32 } ≡ c
  the_cell c h = same_parts _ _ (omega (arith, h)) (omega (arith, h))

  pub road_free : (i : ℕ) → i < length roads → IsRoad (road_at roads i) → IsFreeRoad floor (road_at roads i)
  road_free i h lies n =
      let r = road_at roads i in
      let c = cell_after (road_at roads i) n in
      let hr = on_map_row (road_at roads i) lies n in
      let hc = on_map_col (road_at roads i) lies n in
      let k = c.row * 32 + c.col in
      let on : is_on_road (road_at roads i) (record { row = (c.row * 32 + c.col) / 32; col = (c.row * 32 + c.col) % 32 }) ≡ true =
      ap (is_on_road (road_at roads i)) (the_cell c hc) ∙ passes_on (road_at roads i) lies n in
      let some = list_any_at (λ road. is_on_road road (record { row = (c.row * 32 + c.col) / 32; col = (c.row * 32 + c.col) % 32 })) roads i no_road h on in
      let mark = mark_at 1024 (c.row * 32 + c.col) (omega (arith, hr, hc)) ∙ free_on_road (c.row * 32 + c.col) some in
      and_from _ _ (and_from _ _ (lt-ltb c.row 32 hr) (lt-ltb c.col 32 hc)) mark

-- ---- so the drawn roads are roads of a fleet
pub drawn_roads : (words marks : ℕ → ℕ) → AreRoads (floor (roads_of words 32) marks) (roads_of words 32)
drawn_roads words marks = record { few = few; lie = lie; free = free; rows = rows; goals = goals }
  where
    n : length (roads_of words 32) ≡ 32
    n = length-roads words 32

    few : length (roads_of words 32) ≤ 32
    few = omega (arith, n)

    lie : (i : ℕ) → i < length (roads_of words 32) → IsRoad (road_at (roads_of words 32) i)
    lie i h = let lt : i < 32 = omega (arith, h, n) in subst (λ (r : Road). IsRoad r) (sym (road_is words 32 i lt)) (lies words i lt)

    free : (i : ℕ) → i < length (roads_of words 32) → IsFreeRoad (floor (roads_of words 32) marks) (road_at (roads_of words 32) i)
    free i h = road_free (roads_of words 32) marks i h (lie i h)

    rows : (i j : ℕ) → i < j → j < length (roads_of words 32) → (road_at (roads_of words 32) i).row ≢ (road_at (roads_of words 32) j).row
    rows i j lt h e =
        let hi : i < 32 = omega (arith, lt, h, n) in
        let hj : j < 32 = omega (arith, h, n) in
        omega (arith, lt, e, ap (λ (r : Road). r.row) (road_is words 32 i hi), ap (λ (r : Road). r.row) (road_is words 32 j hj), drawn_row words i, drawn_row words j)

    goals : (i j : ℕ) → i < j → j < length (roads_of words 32) → (road_at (roads_of words 32) i).goal ≢ (road_at (roads_of words 32) j).goal
    goals i j lt h e =
        let hi : i < 32 = omega (arith, lt, h, n) in
        let hj : j < 32 = omega (arith, h, n) in
        let f = ap (λ (r : Road). r.goal) (road_is words 32 i hi) ∙ drawn_goal words i in
        let g = ap (λ (r : Road). r.goal) (road_is words 32 j hj) ∙ drawn_goal words j in
        let same = (arranged words 31 (omega arith)).once i j hi hj (sym f ∙ (e ∙ g)) in
        omega (arith, lt, same)
