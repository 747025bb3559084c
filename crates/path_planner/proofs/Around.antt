-- The cells around a cell.
use Rattle.std.proofs.Common.{ℕ, Bool, true, false, ◌≡◌, ◌+◌, ◌-◌, ◌*◌, ◌<◌, ◌≤◌, ◌⊎◌, IsTrue, [], ◌∷◌, min, refl, ap, ◌∙◌, inl, inr, arith}
use Rattle.std.specs.Prelude.{Contains, ◌&&◌, nat_lt, slice_index_or}
use Rattle.std.proofs.lemmas.Bool.{cases_order, ltb-true}
use Rattle.fleet_base.specs.declared.geometry.Cell.{Cell}
use Rattle.fleet_base.specs.Grid.{OccupancyGrid, is_free, distance}

and_parts : (a b c : Bool) → ((a && b) && c) ≡ true → (a ≡ true) × (b ≡ true)
and_parts true true c e = (refl, refl)
and_parts true false c e = absurd (let f : false ≡ true = e in cc)
and_parts false b c e = absurd (let f : false ≡ true = e in cc)

-- a free cell is on the grid
pub free_on_grid : (grid : OccupancyGrid) (c : Cell) → IsTrue (is_free grid c) → (c.row < grid.height) × (c.col < grid.width)
free_on_grid grid c free =
    let parts = and_parts (nat_lt c.row grid.height) (nat_lt c.col grid.width) (slice_index_or grid.free (c.row * grid.width + c.col) false) free in
    (ltb-true c.row grid.height parts.0, ltb-true c.col grid.width parts.1)

pub same_cells : (a b : Cell) → a.row ≡ b.row → a.col ≡ b.col → a ≡ b
same_cells a b row col =
    let cell : ℕ → ℕ → Cell = λ r c. record { row = r; col = c } in
    ap (λ (r : ℕ). cell r a.col) row ∙ ap (λ (c : ℕ). cell b.row c) col

module _ (at to : Cell) (h w up left right down : ℕ) (is_up : up ≡ at.row - 1) (is_left : left ≡ at.col - 1) (is_right : right ≡ min (at.col + 1) (w - 1)) (is_down : down ≡ min (at.row + 1) (h - 1)) where
  pub all_around : to.row < h → to.col < w → distance at to ≤ 1 → Contains (record { row = up; col = at.col } ∷ record { row = at.row; col = left } ∷ at ∷ record { row = at.row; col = right } ∷ record { row = down; col = at.col } ∷ []) to
  all_around row col near = rows (cases_order at.row to.row)
    where
      cols : at.row ≡ to.row → (at.col ≡ to.col) ⊎ ((at.col < to.col) ⊎ (to.col < at.col)) → Contains (record { row = up; col = at.col } ∷ record { row = at.row; col = left } ∷ at ∷ record { row = at.row; col = right } ∷ record { row = down; col = at.col } ∷ []) to
      cols same (inl here) = (2, omega arith, same_cells at to same here)
      cols same (inr (inl more)) = (3, omega arith, same_cells (record { row = at.row; col = right }) to same (omega (arith, is_right, near, more, col)))
      cols same (inr (inr less)) = (1, omega arith, same_cells (record { row = at.row; col = left }) to same (omega (arith, is_left, near, less)))

      rows : (at.row ≡ to.row) ⊎ ((at.row < to.row) ⊎ (to.row < at.row)) → Contains (record { row = up; col = at.col } ∷ record { row = at.row; col = left } ∷ at ∷ record { row = at.row; col = right } ∷ record { row = down; col = at.col } ∷ []) to
      rows (inl same) = cols same (cases_order at.col to.col)
      rows (inr (inl more)) = (4, omega arith, same_cells (record { row = down; col = at.col }) to (omega (arith, is_down, near, more, row)) (omega (arith, near, more)))
      rows (inr (inr less)) = (0, omega arith, same_cells (record { row = up; col = at.col }) to (omega (arith, is_up, near, less)) (omega (arith, near, less)))
