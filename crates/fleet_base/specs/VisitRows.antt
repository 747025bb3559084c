-- Rows with an item for each visit of each robot.

use Rattle.std.specs.Prelude.{ℕ, ◌≡◌, ◌+◌, ◌<◌, List, map, replicate, length, slice_index}
use Rattle.fleet_base.specs.declared.geometry.Visit.{Visit}
use Rattle.fleet_base.specs.Lists.{row_of}
use Rattle.fleet_base.specs.Order.{Graph, last_in}

-- a 0 for each visit, by the numbers of the robots' last visits
abbrev pub zero_rows : List ℕ → List (List ℕ)
zero_rows lasts = map (λ last. replicate (last + 1) 0) lasts

-- the tick of a visit in such rows
abbrev pub tick_in : List (List ℕ) → Visit → ℕ
tick_in rows v = slice_index (row_of rows v.robot) v.index

-- the rows have an item for each visit of the graph
pub record AreRowsFor {X : Type 0} (g : Graph) (rows : List (List X)) : Type 0 where
  pub robots : length rows ≡ length g.lasts
  pub visits : (i : ℕ) → i < length g.lasts → length (row_of rows i) ≡ last_in g i + 1

-- the rows are as long as they were
abbrev pub KeepsRows : List (List ℕ) → List (List ℕ) → Type 0
KeepsRows old new = map length new ≡ map length old
