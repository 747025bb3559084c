-- Rows of ticks with room for more.
use Rattle.std.specs.Prelude.{ℕ, List}

-- the ticks so far, and how many there may be
pub record Row : Type 0 where
  pub ticks : List ℕ
  pub room : ℕ

-- the same of all robots
pub record Rows : Type 0 where
  pub ticks : List (List ℕ)
  pub rooms : List ℕ
