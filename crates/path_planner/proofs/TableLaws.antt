-- What is known of a table after it was written to, and of what it tells.
use Rattle.std.proofs.Common.{ℕ, ◌≡◌, ◌≢◌, ◌+◌, ◌<◌, ◌≤◌, ◌⊎◌, List, [], ◌∷◌, ◌++◌, length, get_or, sym, ap, ◌∙◌, subst, ⊎_elim, inl, inr, below_more, arith, length-append, get_or-set_same, get_or-set_other}
use Rattle.std.specs.Prelude.{slice_set}
use Rattle.std.proofs.Math.ListN.{length-set}
use Rattle.std.proofs.Math.Seq.{get_or-append_seam}
use Rattle.std.proofs.lemmas.Bool.{cases_eq}
use Rattle.std.proofs.lemmas.List.{get_or_append_left}
use Rattle.std.proofs.lemmas.List.Elements.{Contains-push_cases}
use Rattle.fleet_base.specs.declared.geometry.Cell.{Cell}
use Rattle.fleet_base.specs.Lists.{row_of}
use Rattle.fleet_base.specs.Grid.{OccupancyGrid}
use Rattle.fleet_base.specs.Plan.{cell_at, no_cell, IsCollisionFree}
use Rattle.path_planner.specs.Tables.{value_at, HasPlace, SameSides, Covers, TellsRobots, TellsPlaces}
use Rattle.path_planner.proofs.Around.{same_cells, free_on_grid}
use Rattle.path_planner.proofs.Spread.{found_at}

-- a cell is another or not
pub cell_cases : (a b : Cell) → (a ≡ b) ⊎ (a ≢ b)
cell_cases a b = rows (cases_eq a.row b.row)
  where
    cols : a.row ≡ b.row → (a.col ≡ b.col) ⊎ (a.col ≡ b.col → ⊥) → (a ≡ b) ⊎ (a ≢ b)
    cols row (inl col) = inl (same_cells a b row col)
    cols row (inr other) = inr (λ e. other (ap (λ (c : Cell). c.col) e))

    rows : (a.row ≡ b.row) ⊎ (a.row ≡ b.row → ⊥) → (a ≡ b) ⊎ (a ≢ b)
    rows (inl row) = cols row (cases_eq a.col b.col)
    rows (inr other) = inr (λ e. other (ap (λ (c : Cell). c.row) e))

-- ---- a table that was written to
module _ (table new : List (List ℕ)) (at : Cell) (value : ℕ) (is : new ≡ slice_set table at.row (slice_set (row_of table at.row) at.col value)) where
  row_here : at.row < length table → row_of new at.row ≡ slice_set (row_of table at.row) at.col value
  row_here inside = ap (λ (t : List (List ℕ)). row_of t at.row) is ∙ get_or-set_same table at.row (slice_set (row_of table at.row) at.col value) [] inside

  row_other : (r : ℕ) → r ≢ at.row → row_of new r ≡ row_of table r
  row_other r other = ap (λ (t : List (List ℕ)). row_of t r) is ∙ get_or-set_other table at.row r (slice_set (row_of table at.row) at.col value) [] other

  module _ (place : HasPlace table at) where
    pub put_sides : SameSides table new
    put_sides = record {
      rows = ap length is ∙ length-set table at.row (slice_set (row_of table at.row) at.col value);
      cols = λ r. ⊎_elim (same r) (λ other. ap length (row_other r other)) (cases_eq r at.row);
    }
      where
        same : (r : ℕ) → r ≡ at.row → length (row_of new r) ≡ length (row_of table r)
        same r e = subst (λ n. length (row_of new n) ≡ length (row_of table n)) (sym e) (ap length (row_here place.0) ∙ length-set (row_of table at.row) at.col value)

    pub put_here : value_at new at ≡ value
    put_here = ap (λ (row : List ℕ). get_or row at.col 0) (row_here place.0) ∙ get_or-set_same (row_of table at.row) at.col value 0 place.1

    pub put_others : (c : Cell) → c ≢ at → value_at new c ≡ value_at table c
    put_others c other = rows (cases_eq c.row at.row)
      where
        cols : c.row ≡ at.row → (c.col ≡ at.col) ⊎ (c.col ≡ at.col → ⊥) → value_at new c ≡ value_at table c
        cols row (inl col) = absurd (other (same_cells c at row col))
        cols row (inr col) =
            subst (λ r. get_or (row_of new r) c.col 0 ≡ get_or (row_of table r) c.col 0) (sym row)
            (ap (λ (xs : List ℕ). get_or xs c.col 0) (row_here place.0) ∙ get_or-set_other (row_of table at.row) at.col c.col value 0 col)

        rows : (c.row ≡ at.row) ⊎ (c.row ≡ at.row → ⊥) → value_at new c ≡ value_at table c
        rows (inl row) = cols row (cases_eq c.col at.col)
        rows (inr row) = ap (λ (xs : List ℕ). get_or xs c.col 0) (row_other c.row row)

pub covers_same : (grid : OccupancyGrid) (old new : List (List ℕ)) → Covers grid old → SameSides old new → Covers grid new
covers_same grid old new covers same c free = let place = covers c free in (omega (arith, same.rows, place.0), omega (arith, same.cols c.row, place.1))

-- ---- robots by cell
module _ (fixed : List (List Cell)) (t : ℕ) where
  -- the first n robots
  abbrev pub RobotsOf : ℕ → List (List ℕ) → Type 0
  RobotsOf n table = (j : ℕ) → j < n → value_at table (cell_at fixed j t) ≡ j

  pub one_robot : (n : ℕ) (old new : List (List ℕ)) (at : Cell) → IsCollisionFree fixed → n < length fixed → at ≡ cell_at fixed n t → RobotsOf n old → value_at new at ≡ n → ((c : Cell) → c ≢ at → value_at new c ≡ value_at old c) → RobotsOf (n + 1) new
  one_robot n old new at apart inside is so here others =
      below_more (λ j. value_at new (cell_at fixed j t) ≡ j) n
      (λ j h. others (cell_at fixed j t) (λ e. apart.shares j n t h inside (e ∙ is)) ∙ so j h)
      (subst (λ (c : Cell). value_at new c ≡ n) is here)

  pub all_robots : (n : ℕ) (table : List (List ℕ)) → RobotsOf n table → length fixed ≤ n → TellsRobots fixed t table
  all_robots n table so all j h = so j (omega (arith, h, all))

-- ---- places by cell
-- the first n of these cells
abbrev pub PlacesOf : List Cell → ℕ → List (List ℕ) → Type 0
PlacesOf cells n table = (c : Cell) (k : ℕ) → k < n → get_or cells k no_cell ≡ c → (value_at table c < n) × (get_or cells (value_at table c) no_cell ≡ c)

pub one_place : (cells : List Cell) (n : ℕ) (old new : List (List ℕ)) (at : Cell) → get_or cells n no_cell ≡ at → PlacesOf cells n old → value_at new at ≡ n → ((c : Cell) → c ≢ at → value_at new c ≡ value_at old c) → PlacesOf cells (n + 1) new
one_place cells n old new at is so here others c k h e = ⊎_elim same other (cell_cases c at)
  where
    same : c ≡ at → (value_at new c < n + 1) × (get_or cells (value_at new c) no_cell ≡ c)
    same c_is =
        let v : value_at new c ≡ n = ap (value_at new) c_is ∙ here in
        (omega (arith, v), ap (λ (i : ℕ). get_or cells i no_cell) v ∙ (is ∙ sym c_is))

    other : c ≢ at → (value_at new c < n + 1) × (get_or cells (value_at new c) no_cell ≡ c)
    other c_not =
        let k_not : k ≢ n = λ k_is. c_not (sym e ∙ (ap (λ (i : ℕ). get_or cells i no_cell) k_is ∙ is)) in
        let v = others c c_not in
        let was = so c k (omega (arith, h, k_not)) e in
        (omega (arith, v, was.0), ap (λ (i : ℕ). get_or cells i no_cell) v ∙ was.1)

pub all_places : (cells : List Cell) (n : ℕ) (table : List (List ℕ)) → PlacesOf cells n table → n ≡ length cells → TellsPlaces cells table
all_places cells n table so all c there =
    let p = found_at cells c there in
    let told = so c p.0 (omega (arith, p.1, all)) p.2 in
    (omega (arith, told.0, all), told.1)

-- no cells have no places
pub no_places : (table : List (List ℕ)) → TellsPlaces [] table
no_places table c there = absurd (omega (arith, there.1))

-- one more cell, which comes last
pub place_added : (cells : List Cell) (old new : List (List ℕ)) (at : Cell) → TellsPlaces cells old → value_at new at ≡ length cells → ((c : Cell) → c ≢ at → value_at new c ≡ value_at old c) → TellsPlaces (cells ++ at ∷ []) new
place_added cells old new at so here others c there = ⊎_elim same other (cell_cases c at)
  where
    len : length (cells ++ at ∷ []) ≡ length cells + 1
    len = omega (arith, length-append cells (at ∷ []))

    same : c ≡ at → (value_at new c < length (cells ++ at ∷ [])) × (get_or (cells ++ at ∷ []) (value_at new c) no_cell ≡ c)
    same c_is =
        let v : value_at new c ≡ length cells = ap (value_at new) c_is ∙ here in
        (omega (arith, v, len), ap (λ (i : ℕ). get_or (cells ++ at ∷ []) i no_cell) v ∙ (get_or-append_seam cells at [] no_cell ∙ sym c_is))

    other : c ≢ at → (value_at new c < length (cells ++ at ∷ [])) × (get_or (cells ++ at ∷ []) (value_at new c) no_cell ≡ c)
    other c_not =
        let was = so c (⊎_elim (λ old. old) (λ is. absurd (c_not (sym is))) (Contains-push_cases cells at c there)) in
        let v = others c c_not in
        (omega (arith, v, len, was.0), ap (λ (i : ℕ). get_or (cells ++ at ∷ []) i no_cell) v ∙ (get_or_append_left cells (at ∷ []) no_cell (value_at old c) was.0 ∙ was.1))

-- ---- a table of rows
-- n rows of this length
pub record RowsOf (cols n : ℕ) (table : List (List ℕ)) : Type 0 where
  pub rows : length table ≡ n
  pub cols_of : (r : ℕ) → r < n → length (row_of table r) ≡ cols

pub no_rows : (cols : ℕ) (table : List (List ℕ)) → table ≡ [] → RowsOf cols 0 table
no_rows cols table is = record { rows = ap length is; cols_of = λ r h. absurd (omega (arith, h)) }

pub one_row : (cols n : ℕ) (table new : List (List ℕ)) (row : List ℕ) → RowsOf cols n table → length row ≡ cols → new ≡ table ++ row ∷ [] → RowsOf cols (n + 1) new
one_row cols n table new row so len is = subst (RowsOf cols (n + 1)) (sym is) (record {
  rows = omega (arith, so.rows, length-append table (row ∷ []));
  cols_of = below_more (λ r. length (row_of (table ++ row ∷ []) r) ≡ cols) n
      (λ r h. ap length (get_or_append_left table (row ∷ []) [] r (omega (arith, h, so.rows))) ∙ so.cols_of r h)
      (subst (λ r. length (row_of (table ++ row ∷ []) r) ≡ cols) so.rows (ap length (get_or-append_seam table row [] []) ∙ len));
})

pub rows_cover : (grid : OccupancyGrid) (n : ℕ) (table : List (List ℕ)) → RowsOf grid.width n table → grid.height ≤ n → Covers grid table
rows_cover grid n table so all c free =
    let on = free_on_grid grid c free in
    let row : c.row < n = omega (arith, on.0, all) in
    (omega (arith, row, so.rows), omega (arith, so.cols_of c.row row, on.1))
