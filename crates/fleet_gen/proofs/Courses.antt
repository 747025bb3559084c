-- Roads, cell by cell: where they begin, where they end, and that each move is one step.
use Rattle.std.proofs.Common.{ℕ, suc, ◌≡◌, ◌≢◌, ◌+◌, ◌-◌, ◌<◌, ◌≤◌, ◌⊎◌, refl, sym, ap, ◌∙◌, inl, inr, arith, min}
use Rattle.std.proofs.lemmas.Bool.{cases_lt}
use Rattle.fleet_base.specs.declared.geometry.Cell.{Cell}
use Rattle.fleet_base.specs.Grid.{distance}
use Rattle.fleet_gen.specs.declared.road.Road.{Road}
use Rattle.fleet_gen.specs.Roads.{IsRoad, toward, rows_of, moves_of, cell_after}

pub same_parts : (a b : Cell) → a.row ≡ b.row → a.col ≡ b.col → a ≡ b
same_parts a b rows cols = λ i. record { row = rows i; col = cols i }

-- ---- numbers that go toward another
pub toward_none : (a b : ℕ) → toward a b 0 ≡ a
toward_none a b = omega arith

pub toward_end : (a b n : ℕ) → (a - b) + (b - a) ≤ n → toward a b n ≡ b
toward_end a b n h = omega (arith, h)

pub toward_more : (a b n : ℕ) → (toward a b n - toward a b (suc n)) + (toward a b (suc n) - toward a b n) ≤ 1
toward_more a b n = omega arith

pub toward_up : (a b n : ℕ) → a ≤ b → toward a b n ≡ min b (a + n)
toward_up a b n h = omega (arith, h)

module _ (r : Road) (lies : IsRoad r) where
  -- ---- the three stretches
  pub first_row : (n : ℕ) → n ≤ r.column → (cell_after r n).row ≡ r.row
  first_row n h = omega (arith, h)

  pub first_col : (n : ℕ) → n ≤ r.column → (cell_after r n).col ≡ n
  first_col n h = let c = lies.column.1 in omega (arith, h, c)

  pub across_col : (n : ℕ) → r.column ≤ n → n ≤ r.column + rows_of r → (cell_after r n).col ≡ r.column
  across_col n h k = let c = lies.column.1 in omega (arith, h, k, c)

  pub last_row : (n : ℕ) → r.column + rows_of r ≤ n → (cell_after r n).row ≡ r.goal
  last_row n h = toward_end r.row r.goal (n - r.column) (omega (arith, h))

  pub last_col : (n : ℕ) → r.column + rows_of r ≤ n → (cell_after r n).col ≡ min 31 (n - rows_of r)
  last_col n h =
      let c = lies.column.1 in
      let e : min n r.column ≡ r.column = omega (arith, h) in
      let u : min n r.column ≤ 31 = omega (arith, e, c) in
      toward_up (min n r.column) 31 (n - (r.column + rows_of r)) u ∙ omega (arith, e, h)

  -- ---- each move is one step
  near_first : (n : ℕ) → n < r.column → distance (cell_after r n) (cell_after r (suc n)) ≤ 1
  near_first n h =
      let a = first_row n (omega arith) in
      let b = first_row (suc n) h in
      let c = first_col n (omega arith) in
      let d = first_col (suc n) h in
      step (cell_after r n) (cell_after r (suc n)) r.row r.row n (suc n) a b c d (omega arith)
    where
      step : (x y : Cell) (a b c d : ℕ) → x.row ≡ a → y.row ≡ b → x.col ≡ c → y.col ≡ d → (a - b) + (b - a) + (c - d) + (d - c) ≤ 1 → distance x y ≤ 1
      step x y a b c d e f g h le = omega (arith, e, f, g, h, le)

  near_across : (n : ℕ) → r.column ≤ n → n < r.column + rows_of r → distance (cell_after r n) (cell_after r (suc n)) ≤ 1
  near_across n h k =
      let c = across_col n h (omega arith) in
      let d = across_col (suc n) (omega arith) k in
      let e : suc n - r.column ≡ suc (n - r.column) = omega (arith, h) in
      let f : (cell_after r (suc n)).row ≡ toward r.row r.goal (suc (n - r.column)) = ap (toward r.row r.goal) e in
      let m = toward_more r.row r.goal (n - r.column) in
      close (cell_after r n) (cell_after r (suc n)) (toward r.row r.goal (n - r.column)) (toward r.row r.goal (suc (n - r.column))) r.column refl f c d m
    where
      close : (x y : Cell) (a b c : ℕ) → x.row ≡ a → y.row ≡ b → x.col ≡ c → y.col ≡ c → (a - b) + (b - a) ≤ 1 → distance x y ≤ 1
      close x y a b c e f g h le = omega (arith, e, f, g, h, le)

  near_last : (n : ℕ) → r.column + rows_of r ≤ n → distance (cell_after r n) (cell_after r (suc n)) ≤ 1
  near_last n h =
      let a = last_row n h in
      let b = last_row (suc n) (omega arith) in
      let c = last_col n h in
      let d = last_col (suc n) (omega arith) in
      close (cell_after r n) (cell_after r (suc n)) r.goal (n - rows_of r) (suc n - rows_of r) a b c d (omega arith)
    where
      close : (x y : Cell) (a c d : ℕ) → x.row ≡ a → y.row ≡ a → x.col ≡ min 31 c → y.col ≡ min 31 d → (c - d) + (d - c) ≤ 1 → distance x y ≤ 1
      close x y a c d e f g h le = omega (arith, e, f, g, h, le)

  pub near : (n : ℕ) → distance (cell_after r n) (cell_after r (suc n)) ≤ 1
  near n = go (cases_lt n r.column) (cases_lt n (r.column + rows_of r))
    where
      go : (n < r.column) ⊎ (r.column ≤ n) → (n < r.column + rows_of r) ⊎ (r.column + rows_of r ≤ n) → distance (cell_after r n) (cell_after r (suc n)) ≤ 1
      go (inl lt) o = near_first n lt
      go (inr le) (inl lt) = near_across n le lt
      go (inr le) (inr past) = near_last n past

  -- ---- where it begins and ends
  pub begins : cell_after r 0 ≡ record { row = r.row; col = 0 }
  begins = same_parts _ _ (first_row 0 (omega arith)) (first_col 0 (omega arith))

  -- column 0 is its beginning alone
  pub in_first_column : (n : ℕ) → (cell_after r n).col ≡ 0 → (cell_after r n).row ≡ r.row
  in_first_column n e = go (cases_lt n r.column) (cases_lt n (r.column + rows_of r))
    where
      go : (n < r.column) ⊎ (r.column ≤ n) → (n < r.column + rows_of r) ⊎ (r.column + rows_of r ≤ n) → (cell_after r n).row ≡ r.row
      go (inl lt) o = first_row n (omega (arith, lt))
      go (inr le) (inl lt) = let c = lies.column.0 in absurd (omega (arith, across_col n le (omega (arith, lt)), e, c))
      go (inr le) (inr past) = let c = lies.column.0 in absurd (omega (arith, last_col n past, e, c, past))

  -- column 31 is its end alone
  pub in_last_column : (n : ℕ) → (cell_after r n).col ≡ 31 → (cell_after r n).row ≡ r.goal
  in_last_column n e = go (cases_lt n r.column) (cases_lt n (r.column + rows_of r))
    where
      go : (n < r.column) ⊎ (r.column ≤ n) → (n < r.column + rows_of r) ⊎ (r.column + rows_of r ≤ n) → (cell_after r n).row ≡ r.goal
      go (inl lt) o = let c = lies.column.1 in absurd (omega (arith, first_col n (omega (arith, lt)), e, c, lt))
      go (inr le) (inl lt) = let c = lies.column.1 in absurd (omega (arith, across_col n le (omega (arith, lt)), e, c))
      go (inr le) (inr past) = last_row n past

  pub ends : (n : ℕ) → moves_of r ≤ n → cell_after r n ≡ record { row = r.goal; col = 31 }
  ends n h =
      let c = lies.column.1 in
      let past : r.column + rows_of r ≤ n = omega (arith, h, c) in
      same_parts _ _ (last_row n past) (last_col n past ∙ omega (arith, h))

  -- ---- and that it stays on the map
  pub on_map_row : (n : ℕ) → (cell_after r n).row < 32
  on_map_row n = let a = lies.row in let b = lies.goal in omega (arith, a, b)

  pub on_map_col : (n : ℕ) → (cell_after r n).col < 32
  on_map_col n = let c = lies.column.1 in omega (arith, c)

-- roads that begin in other rows meet neither's first cell, and those that end in other rows neither's last one
module _ (r s : Road) (lies : IsRoad r) (other : IsRoad s) where
  pub apart_first : s.row ≢ r.row → (n : ℕ) → cell_after s n ≢ cell_after r 0
  apart_first ne n e =
      let at : cell_after s n ≡ record { row = r.row; col = 0 } = e ∙ begins r lies in
      ne (sym (in_first_column s other n (ap (λ (c : Cell). c.col) at)) ∙ ap (λ (c : Cell). c.row) at)

  pub apart_last : s.goal ≢ r.goal → (m n : ℕ) → moves_of r ≤ n → cell_after s m ≢ cell_after r n
  apart_last ne m n h e =
      let at : cell_after s m ≡ record { row = r.goal; col = 31 } = e ∙ ends r lies n h in
      ne (sym (in_last_column s other m (ap (λ (c : Cell). c.col) at)) ∙ ap (λ (c : Cell). c.row) at)
