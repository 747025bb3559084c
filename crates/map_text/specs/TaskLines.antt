-- What reading the lines of tasks gives.
use Rattle.std.specs.Prelude.{ℕ, ◌≡◌, ◌≢◌, ◌+◌, ◌<◌, ◌≤◌, List, [], length, drop, slice_get, slice_index_or, Some, IsSomeAnd, All, Result, Ok, Err}
use Rattle.fleet_base.specs.declared.geometry.Cell.{Cell}
use Rattle.map_text.specs.declared.scenario.Task.{Task}
use Rattle.map_text.specs.declared.scenario.ScenKind.{ScenKind}
use Rattle.map_text.specs.declared.scenario.ScenKind.TheVariants.{Fields, Number}
use Rattle.map_text.specs.declared.scenario.ScenError.{ScenError}
use Rattle.map_text.specs.declared.scenario.ScenError.TheVariants as scen_error
use Rattle.map_text.specs.ScenText.{HasFields, IsCount, IsTaskLine}
use Rattle.map_text.specs.ScenFaults.{HasBadNumber}

-- nine fields, none of them empty
pub record AreFilled (fields : List (List ℕ)) : Type 0 where
  pub nine : length fields ≡ 9
  pub filled : All (λ field. field ≢ []) fields

-- the column and the row of a cell are these fields
pub record IsCellAt (fields : List (List ℕ)) (col row : ℕ) (cell : Cell) : Type 0 where
  pub at_col : IsCount (slice_index_or fields col []) cell.col
  pub at_row : IsCount (slice_index_or fields row []) cell.row

-- the third field to the eighth are the numbers of a task
pub record IsTaskOf (fields : List (List ℕ)) (task : Task) : Type 0 where
  pub width : IsCount (slice_index_or fields 2 []) task.width
  pub height : IsCount (slice_index_or fields 3 []) task.height
  pub start : IsCellAt fields 4 5 task.start
  pub goal : IsCellAt fields 6 7 task.goal

-- one of the fields between two places is no number below 2^32
abbrev pub HasBadCount : List (List ℕ) → ℕ → ℕ → Type 0
HasBadCount fields from to = (k : ℕ) × (from ≤ k) × (k < to) × ((n : ℕ) → IsCount (slice_index_or fields k []) n → ⊥)

-- a line is wrong in this way
abbrev pub IsWrongTask : List ℕ → ScenKind → Type 0
IsWrongTask line Fields = ¬ HasFields line
IsWrongTask line Number = HasFields line × HasBadNumber line
IsWrongTask line _ = ⊥

-- a refusal of a line names its number and what is wrong there
abbrev pub TaskFaultIs : List ℕ → ℕ → Result Task ScenError → Type 0
TaskFaultIs line number (Ok task) = Unit {0}
TaskFaultIs line number (Err (scen_error.Fault f)) = (f.line ≡ number) × IsWrongTask line f.kind
TaskFaultIs line number (Err scen_error.Memory) = Unit {0}

-- the first of these lines tell these tasks, and the rest follows
pub record TakesTasks (lines rest : List (List ℕ)) (tasks : List Task) : Type 0 where
  pub told : (j : ℕ) (task : Task) → slice_get tasks j ≡ Some task → IsSomeAnd (slice_get lines j) (λ text. IsTaskLine text task)
  pub left : rest ≡ drop (length tasks) lines

-- the first of these lines that is not empty and tells no task is wrong in this way; one line stands above them
pub record IsTasksFault (lines : List (List ℕ)) (at : ℕ) (kind : ScenKind) : Type 0 where
  pub place : ℕ
  pub counted : at ≡ place + 2
  pub above : (j : ℕ) → j < place → IsSomeAnd (slice_get lines j) (λ text. (task : Task) × IsTaskLine text task)
  pub here : IsSomeAnd (slice_get lines place) (λ line. (line ≢ []) × IsWrongTask line kind)

-- a refusal of the lines below the version names the first that is wrong
abbrev pub TasksFaultIs : {T : Type 0} → List (List ℕ) → Result T ScenError → Type 0
TasksFaultIs lines (Ok x) = Unit {0}
TasksFaultIs lines (Err (scen_error.Fault f)) = IsTasksFault lines f.line f.kind
TasksFaultIs lines (Err scen_error.Memory) = Unit {0}
