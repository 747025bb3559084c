-- Where a text leaves the grammar of plans.
use Rattle.std.specs.Prelude.{ℕ, ◌≡◌, ◌+◌, ◌<◌, ◌≤◌, List, [], ◌∷◌, ◌++◌, length}
use Rattle.fleet_base.specs.declared.geometry.Cell.{Cell}
use Rattle.fleet_base.specs.Bytes.{IsPrefix, IsLongestFront}
use Rattle.plan_text.specs.declared.fault.PlanKind.{PlanKind}
use Rattle.plan_text.specs.declared.fault.PlanKind.TheVariants.{Label, Path, Empty}
use Rattle.plan_text.specs.PlanText.{IsPathText, IsPlanLine, AreRobotLines, label_of}

-- the bytes begin the text of some path
abbrev pub BeginsPathText : List ℕ → Type 0
BeginsPathText front = (text : List ℕ) × (path : List Cell) × IsPathText text path × IsPrefix front text

-- the bytes begin some line of a robot
abbrev pub BeginsPlanLine : ℕ → List ℕ → Type 0
BeginsPlanLine i front = (line : List ℕ) × (path : List Cell) × IsPlanLine i line path × IsPrefix front line

-- the kind says whether the good front of n bytes has the whole label
abbrev pub IsKindOf : ℕ → ℕ → PlanKind → Type 0
IsKindOf i n Label = n < length (label_of i)
IsKindOf i n Path = length (label_of i) ≤ n
IsKindOf i n Empty = ⊥

-- the text is that of no path, and its longest front that begins one has n bytes
pub record IsPathFault (text : List ℕ) (n : ℕ) : Type 0 where
  pub bad : (path : List Cell) → IsPathText text path → ⊥
  pub front : IsLongestFront BeginsPathText text n

-- the line is none of its robot; the column is 1 plus the length of its longest front that begins one
pub record IsLineFault (i : ℕ) (line : List ℕ) (column : ℕ) (kind : PlanKind) : Type 0 where
  pub bad : (path : List Cell) → IsPlanLine i line path → ⊥
  pub n : ℕ
  pub front : IsLongestFront (BeginsPlanLine i) line n
  pub place : column ≡ n + 1
  pub called : IsKindOf i n kind

-- the first line that is none of its robot, counted from 1: the lines above it are those of theirs
pub record IsFirstBadLine (lines : List (List ℕ)) (at column : ℕ) (kind : PlanKind) : Type 0 where
  pub above : List (List ℕ)
  pub plan : List (List Cell)
  pub good : AreRobotLines 0 above plan
  pub line : List ℕ
  pub below : List (List ℕ)
  pub stands : lines ≡ above ++ line ∷ below
  pub number : at ≡ length above + 1
  pub fault : IsLineFault (length above) line column kind

-- the fault of a text with these lines: that there is none, or the first bad one
abbrev pub IsPlanFault : List (List ℕ) → ℕ → ℕ → PlanKind → Type 0
IsPlanFault lines at column Empty = (lines ≡ []) × (at ≡ 1) × (column ≡ 1)
IsPlanFault lines at column Label = IsFirstBadLine lines at column Label
IsPlanFault lines at column Path = IsFirstBadLine lines at column Path
