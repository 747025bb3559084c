-- Reading lines from a stream, piece by piece.
use Rattle.std.specs.Prelude.{ℕ, ◌≡◌, List, [], ◌∷◌, ◌++◌, take, Result, Ok, Err}
use Rattle.fleet_base.specs.Bytes.{pieces_of, last_piece, text_of_lines}
use Rattle.fleet_serve.specs.declared.outcome.StepFault.{StepFault}
use Rattle.fleet_serve.specs.declared.outcome.StepFault.TheVariants as step_fault
use Rattle.fleet_serve.specs.Told.{Sends, SendsPart}
use Rattle.fleet_serve.specs.Turns.{TurnMade, point_after, answers_of}
use Rattle.fleet_serve.specs.Serving.{Course, line_of, Serves, Begins}

-- what follows the last LF of a text
abbrev pub unfinished : List ℕ → List ℕ
unfinished text = last_piece (pieces_of text)

-- no LF is in the line yet
abbrev pub IsUnfinished : List ℕ → Type 0
IsUnfinished line = pieces_of line ≡ line ∷ []

-- the part of a line that is kept while it is read
abbrev pub kept_of : List ℕ → List ℕ
kept_of line = take 258 line

-- What it leaves to read some bytes behind a line that was begun: the turns of the whole lines are made. Where the station or memory
-- fails, those of the first lines are.
abbrev pub Hears : Course → List ℕ → List ℕ → List ℕ → Result (Unit {0}) StepFault → Type 0
Hears s line bytes kept (Ok done) = Serves s (line ++ bytes) × (kept ≡ kept_of (unfinished (line ++ bytes)))
Hears s line bytes kept (Err step_fault.Station) = (turns : List TurnMade) × (torn : TurnMade) × Begins s (line ++ bytes) (turns ++ torn ∷ []) × SendsPart (line_of s) (text_of_lines (answers_of turns)) (text_of_lines torn.answer)
Hears s line bytes kept (Err step_fault.Memory) = (turns : List TurnMade) × Begins s (line ++ bytes) turns × (s.to ≡ point_after s.from turns) × Sends (line_of s) (text_of_lines (answers_of turns))
