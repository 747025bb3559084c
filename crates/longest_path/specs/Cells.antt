-- Rows that have an item for each visit.
use Rattle.std.specs.Prelude.{ℕ, ◌≡◌, ◌+◌, ◌<◌, List, map, replicate, length, slice_set, slice_index_or, Bool, false, sum_by, if◌then◌else◌}
use Rattle.fleet_base.specs.declared.geometry.Visit.{Visit}
use Rattle.fleet_base.specs.Lists.{row_of}
use Rattle.fleet_base.specs.Order.{Graph}

-- the rows have an item for a visit
abbrev pub HasCell : {X : Type 0} → List (List X) → Visit → Type 0
HasCell rows v = (v.robot < length rows) × (v.index < length (row_of rows v.robot))

-- the rows with another item for a visit
abbrev pub put : {X : Type 0} → List (List X) → Visit → X → List (List X)
put rows v x = slice_set rows v.robot (slice_set (row_of rows v.robot) v.index x)

-- two lists have as many rows, each as long as the other's
pub record AreAlike {X Y : Type 0} (xs : List (List X)) (ys : List (List Y)) : Type 0 where
  pub rows : length xs ≡ length ys
  pub each : (i : ℕ) → length (row_of xs i) ≡ length (row_of ys i)

-- whether a visit is marked
abbrev pub is_marked : List (List Bool) → Visit → Bool
is_marked marks v = slice_index_or (row_of marks v.robot) v.index false

-- no visit of a plan is marked
abbrev pub no_marks : Graph → List (List Bool)
no_marks g = map (λ last. replicate (last + 1) false) g.lasts

-- how many are marked
abbrev pub mark_count : List (List Bool) → ℕ
mark_count marks = sum_by (λ row. sum_by (λ b. if b then 1 else 0) row) marks

-- how many items there are
abbrev pub cell_count : {X : Type 0} → List (List X) → ℕ
cell_count rows = sum_by (λ row. length row) rows
