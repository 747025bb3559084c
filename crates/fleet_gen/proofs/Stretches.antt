-- The three stretches of a road, and the cells that it goes through.
use Rattle.std.proofs.Common.{ℕ, ◌≡◌, ◌+◌, ◌-◌, ◌<◌, ◌≤◌, ◌⊎◌, Bool, true, false, refl, sym, ap, ◌∙◌, subst, inl, inr, arith, min, max}
use Rattle.std.specs.Prelude.{◌&&◌, ◌||◌, ◌==◌, nat_le}
use Rattle.std.proofs.lemmas.Bool.{cases_lt, eqb-true, leb-true, and_parts}
use Rattle.fleet_base.specs.declared.geometry.Cell.{Cell}
use Rattle.fleet_base.specs.Grid.{distance}
use Rattle.fleet_gen.specs.declared.road.Road.{Road}
use Rattle.fleet_gen.specs.Roads.{IsRoad, rows_of, moves_of, cell_after, is_on_road, toward}
use Rattle.fleet_gen.proofs.Courses.{same_parts, first_row, first_col, across_col, last_row, last_col}
use Rattle.fleet_gen.proofs.Drawn.{passes_on}

either_part : (a b : Bool) → (a || b) ≡ true → (a ≡ true) ⊎ (b ≡ true)
either_part true b e = inl refl
either_part false b e = inr e

module _ (r : Road) (lies : IsRoad r) where
  pub first_stretch : (n : ℕ) → n ≤ r.column → cell_after r n ≡ record { row = r.row; col = n }
  first_stretch n h = same_parts _ _ (first_row r lies n h) (first_col r lies n h)

  pub across_stretch : (n : ℕ) → n ≤ rows_of r → cell_after r (r.column + n) ≡ record { row = max (r.row - n) (min r.goal (r.row + n)); col = r.column }
  across_stretch n h = same_parts _ _ (omega arith) (across_col r lies (r.column + n) (omega arith) (omega (arith, h)))

  pub last_stretch : (n : ℕ) → r.column ≤ n → n ≤ 31 → cell_after r (n + rows_of r) ≡ record { row = r.goal; col = n }
  last_stretch n h k =
      let past : r.column + rows_of r ≤ n + rows_of r = omega (arith, h) in
      same_parts _ _ (last_row r lies (n + rows_of r) past) (last_col r lies (n + rows_of r) past ∙ omega (arith, k))

  -- ---- each move changes the cell by one step
  apart : (x y : Cell) (a b c d : ℕ) → x.row ≡ a → y.row ≡ b → x.col ≡ c → y.col ≡ d → (a - b) + (b - a) + (c - d) + (d - c) ≡ 1 → distance x y ≡ 1
  apart x y a b c d e f g h le = omega (arith, e, f, g, h, le)

  across : (a b m c : ℕ) → m < (a - b) + (b - a) → (toward a b m - toward a b (m + 1)) + (toward a b (m + 1) - toward a b m) + (c - c) + (c - c) ≡ 1
  across a b m c h = omega (arith, h)

  pub one_step : (n : ℕ) → n < moves_of r → distance (cell_after r n) (cell_after r (n + 1)) ≡ 1
  one_step n h = go (cases_lt n r.column) (cases_lt n (r.column + rows_of r))
    where
      go : (n < r.column) ⊎ (r.column ≤ n) → (n < r.column + rows_of r) ⊎ (r.column + rows_of r ≤ n) → distance (cell_after r n) (cell_after r (n + 1)) ≡ 1
      go (inl lt) o =
          apart (cell_after r n) (cell_after r (n + 1)) r.row r.row n (n + 1) (first_row r lies n (omega (arith, lt))) (first_row r lies (n + 1) (omega (arith, lt)))
          (first_col r lies n (omega (arith, lt))) (first_col r lies (n + 1) (omega (arith, lt))) (omega arith)
      go (inr le) (inl lt) =
          let m = n - r.column in
          let e : n + 1 - r.column ≡ n - r.column + 1 = omega (arith, le) in
          let f : (cell_after r (n + 1)).row ≡ toward r.row r.goal (n - r.column + 1) = ap (toward r.row r.goal) e in
          apart (cell_after r n) (cell_after r (n + 1)) (toward r.row r.goal (n - r.column)) (toward r.row r.goal (n - r.column + 1)) r.column r.column refl f
          (across_col r lies n le (omega (arith, lt))) (across_col r lies (n + 1) (omega (arith, le)) (omega (arith, lt)))
          (across r.row r.goal (n - r.column) r.column (omega (arith, le, lt)))
      go (inr le) (inr past) =
          let c = lies.column.1 in
          apart (cell_after r n) (cell_after r (n + 1)) r.goal r.goal (n - rows_of r) (n + 1 - rows_of r) (last_row r lies n past) (last_row r lies (n + 1) (omega (arith, past)))
          (last_col r lies n past ∙ omega (arith, h)) (last_col r lies (n + 1) (omega (arith, past)) ∙ omega (arith, h)) (omega (arith, past))

  -- ---- how far a cell is along the road
  progress : (n : ℕ) → n ≤ moves_of r → (cell_after r n).col + (((cell_after r n).row - r.row) + (r.row - (cell_after r n).row)) ≡ n
  progress n h = go (cases_lt n r.column) (cases_lt n (r.column + rows_of r))
    where
      far : (x : Cell) (a b m : ℕ) → x.col ≡ a → x.row ≡ b → a + ((b - r.row) + (r.row - b)) ≡ m → x.col + ((x.row - r.row) + (r.row - x.row)) ≡ m
      far x a b m e f g = omega (arith, e, f, g)

      gone : (a b m : ℕ) → m ≤ (a - b) + (b - a) → (toward a b m - a) + (a - toward a b m) ≡ m
      gone a b m h = omega (arith, h)

      go : (n < r.column) ⊎ (r.column ≤ n) → (n < r.column + rows_of r) ⊎ (r.column + rows_of r ≤ n) → (cell_after r n).col + (((cell_after r n).row - r.row) + (r.row - (cell_after r n).row)) ≡ n
      go (inl lt) o = far (cell_after r n) n r.row n (first_col r lies n (omega (arith, lt))) (first_row r lies n (omega (arith, lt))) (omega arith)
      go (inr le) (inl lt) =
          far (cell_after r n) r.column (toward r.row r.goal (n - r.column)) n (across_col r lies n le (omega (arith, lt))) refl (omega (arith, gone r.row r.goal (n - r.column) (omega (arith, le, lt)), le))
      go (inr le) (inr past) =
          far (cell_after r n) (n - rows_of r) r.goal n (last_col r lies n past ∙ omega (arith, h)) (last_row r lies n past) (omega (arith, past))

  pub no_cell_twice : (m n : ℕ) → m ≤ moves_of r → n ≤ moves_of r → cell_after r m ≡ cell_after r n → m ≡ n
  no_cell_twice m n hm hn e = sym (progress m hm) ∙ (ap (λ (c : Cell). c.col + ((c.row - r.row) + (r.row - c.row))) e ∙ progress n hn)

  -- ---- the cells that it goes through
  module _ (at : Cell) where
    abbrev Reached : Type 0
    Reached = (n : ℕ) × (n ≤ moves_of r) × (cell_after r n ≡ at)

    on_first : at.row ≡ r.row → at.col ≤ r.column → Reached
    on_first e h = let c = lies.column.1 in (at.col, omega (arith, h, c), first_stretch at.col h ∙ same_parts _ _ (sym e) refl)

    on_across : at.col ≡ r.column → min r.row r.goal ≤ at.row → at.row ≤ max r.row r.goal → Reached
    on_across e low high =
        let m = (at.row - r.row) + (r.row - at.row) in
        let few : (at.row - r.row) + (r.row - at.row) ≤ rows_of r = omega (arith, low, high) in
        let c = lies.column.1 in
        (r.column + m, omega (arith, few, c), across_stretch m few ∙ same_parts _ _ (omega (arith, low, high)) (sym e))

    on_last : at.row ≡ r.goal → r.column ≤ at.col → at.col ≤ 31 → Reached
    on_last e low high = (at.col + rows_of r, omega (arith, high), last_stretch at.col low high ∙ same_parts _ _ (sym e) refl)

    pub on_road_after : is_on_road r at ≡ true → (n : ℕ) × (n ≤ moves_of r) × (cell_after r n ≡ at)
    on_road_after t = go (either_part _ _ t)
      where
        last : (at.row == r.goal && (nat_le r.column at.col && nat_le at.col 31)) ≡ true → Reached
        last b = let p = and_parts _ _ b in let q = and_parts _ _ p.1 in on_last (eqb-true at.row r.goal p.0) (leb-true r.column at.col q.0) (leb-true at.col 31 q.1)

        first : (at.row == r.row && nat_le at.col r.column) ≡ true → Reached
        first b = let p = and_parts _ _ b in on_first (eqb-true at.row r.row p.0) (leb-true at.col r.column p.1)

        middle : (at.col == r.column && (nat_le (min r.row r.goal) at.row && nat_le at.row (max r.row r.goal))) ≡ true → Reached
        middle b = let p = and_parts _ _ b in let q = and_parts _ _ p.1 in on_across (eqb-true at.col r.column p.0) (leb-true (min r.row r.goal) at.row q.0) (leb-true at.row (max r.row r.goal) q.1)

        inner : (x : ((at.row == r.row && nat_le at.col r.column) ≡ true) ⊎ ((at.col == r.column && (nat_le (min r.row r.goal) at.row && nat_le at.row (max r.row r.goal))) ≡ true)) → Reached
        inner (inl b) = first b
        inner (inr b) = middle b

        go : (((at.row == r.row && nat_le at.col r.column) || (at.col == r.column && (nat_le (min r.row r.goal) at.row && nat_le at.row (max r.row r.goal)))) ≡ true) ⊎ ((at.row == r.goal && (nat_le r.column at.col && nat_le at.col 31)) ≡ true) → Reached
        go (inl b) = inner (either_part _ _ b)
        go (inr b) = last b

    pub after_on_road : (n : ℕ) × (n ≤ moves_of r) × (cell_after r n ≡ at) → is_on_road r at ≡ true
    after_on_road s = subst (λ (c : Cell). is_on_road r c ≡ true) s.2 (passes_on r lies s.0)
