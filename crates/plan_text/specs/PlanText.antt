-- The text of a plan.
use Rattle.std.specs.Prelude.{ℕ, ◌≡◌, ◌⊎◌, ◌+◌, ◌<◌, ◌≤◌, List, [], ◌∷◌, ◌++◌, length, codes}
use Rattle.std.specs.List.{AllByRecursion}
use Rattle.fleet_base.specs.declared.geometry.Cell.{Cell}
use Rattle.fleet_base.specs.Bytes.{numeral, file_lines}

-- a cell as it is written: `(r,c)`
abbrev pub cell_text : Cell → List ℕ
cell_text c = codes "(" ++ numeral c.row ++ codes "," ++ numeral c.col ++ codes ")"

-- cells parted by `->`
abbrev pub path_text : List Cell → List ℕ
path_text [] = []
path_text (c ∷ []) = cell_text c
path_text (c ∷ d ∷ cs) = cell_text c ++ codes "->" ++ path_text (d ∷ cs)

-- what the line of a robot begins with: `Agent i: `
abbrev pub label_of : ℕ → List ℕ
label_of i = codes "Agent " ++ numeral i ++ codes ": "

-- row and column have at most four digits
abbrev pub IsNarrow : Cell → Type 0
IsNarrow c = (c.row < 10000) × (c.col < 10000)

-- the text says this path: one cell or more, and one `->` may stand at its end
pub record IsPathText (text : List ℕ) (path : List Cell) : Type 0 where
  pub some : 1 ≤ length path
  pub narrow : AllByRecursion IsNarrow path
  pub spelled : (text ≡ path_text path) ⊎ (text ≡ path_text path ++ codes "->")

-- the line says this path of a robot: the label stands before it
pub record IsPlanLine (i : ℕ) (line : List ℕ) (path : List Cell) : Type 0 where
  pub text : List ℕ
  pub whole : line ≡ label_of i ++ text
  pub says : IsPathText text path

-- each line is that of its robot, in order, from robot i on
abbrev pub AreRobotLines : ℕ → List (List ℕ) → List (List Cell) → Type 0
AreRobotLines i [] [] = Unit {0}
AreRobotLines i (line ∷ lines) (path ∷ plan) = IsPlanLine i line path × AreRobotLines (i + 1) lines plan
AreRobotLines i [] (path ∷ plan) = ⊥
AreRobotLines i (line ∷ lines) [] = ⊥

-- a line in front of others, but for an empty one in front of none
abbrev pub kept_line : List ℕ → List (List ℕ) → List (List ℕ)
kept_line [] [] = []
kept_line [] (next ∷ lines) = [] ∷ next ∷ lines
kept_line (c ∷ cs) lines = (c ∷ cs) ∷ lines

-- the lines without the empty ones at the end
abbrev pub without_empty_lines : List (List ℕ) → List (List ℕ)
without_empty_lines [] = []
without_empty_lines (line ∷ lines) = kept_line line (without_empty_lines lines)

-- the lines of the robots: empty ones after the last robot are dropped
abbrev pub robot_lines : List ℕ → List (List ℕ)
robot_lines text = without_empty_lines (file_lines text)

-- the text is this plan: a line for each robot, and one robot at least
pub record IsPlanText (text : List ℕ) (plan : List (List Cell)) : Type 0 where
  pub some : 1 ≤ length plan
  pub lines : AreRobotLines 0 (robot_lines text) plan

-- a path that has a text: it has a cell, and no number in it has more than four digits
pub record IsWritable (path : List Cell) : Type 0 where
  pub some : 1 ≤ length path
  pub narrow : AllByRecursion IsNarrow path

-- the canonical text of the robots from robot i on: each line ends with LF
abbrev pub plan_text_from : ℕ → List (List Cell) → List ℕ
plan_text_from i [] = []
plan_text_from i (path ∷ plan) = label_of i ++ path_text path ++ (10 ∷ []) ++ plan_text_from (i + 1) plan

-- the canonical text of a plan
abbrev pub plan_text_of : List (List Cell) → List ℕ
plan_text_of plan = plan_text_from 0 plan
