-- A line as it is kept.
use Rattle.std.specs.Prelude.{ℕ, ◌≡◌, ◌<◌, ◌^◌, List, [], ◌∷◌, length, Some}
use Rattle.search_line.specs.declared.line.Line.TheInside.{Inside}
use Rattle.search_line.specs.Lines.{Numbered, IsOn}
use Rattle.search_line.specs.Nodes.{linked_from, AreLinked, HaveWays}
use Rattle.search_line.specs.Turns.{AreTurns}

-- the line: from the root on
abbrev pub line_of : Inside → List Numbered
line_of l = linked_from l.nodes.items (length l.nodes.items) (Some 0)

-- each node stands once on the line, with the way that leads to it, and those that wait have their turns
pub record IsLine (l : Inside) : Type 0 where
  pub linked : AreLinked l.nodes.items (Some 0) (line_of l)
  pub as_many : length (line_of l) ≡ length l.nodes.items
  pub each : (number : ℕ) → number < length l.nodes.items → IsOn (line_of l) number
  pub ways : HaveWays l.nodes.items (line_of l) ([] ∷ [])
  pub turns : AreTurns l.nodes.items l.turns
  pub few : length l.nodes.items < 2 ^ 32
