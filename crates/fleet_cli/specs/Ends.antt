-- How a call of the program ends, by its status, and what it has sent.
use Rattle.std.specs.Prelude.{ℕ, ◌≡◌, ◌⊎◌, Bool, List, []}
use Rattle.fleet_base.specs.declared.geometry.PlannedVisit.{PlannedVisit}
use Rattle.fleet_base.specs.declared.status.Status.{Status}
use Rattle.fleet_base.specs.declared.status.Status.TheVariants.{Done, Usage, Input, Journal, ReadFault, StationFault, Memory, Limit}
use Rattle.fleet_base.specs.State.{FleetState}
use Rattle.fleet_recovery.specs.Papers.{Papers}
use Rattle.fleet_recovery.specs.Image.{StandsFor}
use Rattle.station_api.specs.Scene.{Scene}
use Rattle.fleet_serve.specs.Spans.{Span, sent_over}
use Rattle.fleet_serve.specs.Told.{Sends, SendsPart, Takes}
use Rattle.command_words.specs.declared.command.Command.{Command}
use Rattle.command_words.specs.declared.command.Command.TheVariants.{Run}
use Rattle.fleet_cli.specs.Papers.{Files}
use Rattle.fleet_cli.specs.Words.{RunsWith}
use Rattle.fleet_cli.specs.Due.{IsAsked, IsDue}
use Rattle.fleet_cli.specs.Runs.{Talk, SidesStay, RunEnds, run_settings}

-- all that a call of the program is handed and leaves: its words, the files, the names of those at which the shelf failed, and its talk
pub record Call : Type 1 where
  pub words : List (List ℕ)
  pub files : Files
  pub shelf_failed : List ℕ → Type 0
  pub talk : Talk

-- a call with these words and files, the names of those at which its shelf failed, and its talk
abbrev pub call : List (List ℕ) → Files → (List ℕ → Type 0) → Talk → Call
call words files shelf_failed talk = record { words = words; files = files; shelf_failed = shelf_failed; talk = talk }

-- the text is the one that is due with this status
abbrev pub IsText : Call → Status → List ℕ → Type 0
IsText call end text = IsDue call.files call.shelf_failed call.words end text

-- the text that is due was sent whole
abbrev pub SaysText : Call → Status → Type 0
SaysText call end = (text : List ℕ) × IsText call end text × Sends (sent_over call.talk.station) text

-- How a call ends that has one text to say. After want of memory it has sent nothing; after a fault of the station, some front of
-- the text that is due; else the whole text.
abbrev pub TextEnds : Call → Status → Type 0
TextEnds call Done = SaysText call Done
TextEnds call Usage = SaysText call Usage
TextEnds call Input = SaysText call Input
TextEnds call Journal = ⊥
TextEnds call ReadFault = SaysText call ReadFault
TextEnds call StationFault = call.talk.station_failed × ((end : Status) × (text : List ℕ) × IsText call end text × SendsPart (sent_over call.talk.station) [] text)
TextEnds call Memory = Sends (sent_over call.talk.station) []
TextEnds call Limit = ⊥

-- a call that has one text to say takes no input, and the sides stay as they are
pub record IsTextCall (call : Call) (end : Status) : Type 0 where
  pub takes : Takes call.talk.input []
  pub stay : SidesStay call.talk.station
  pub ends : TextEnds call end

-- A call that runs a sound plan, with the journal, the budget and the flag that the words give: how it ends.
pub record IsRunCall (call : Call) (end : Status) : Type 0 where
  pub command : Command
  pub journal : List ℕ
  pub budget : ℕ
  pub quiet : Bool
  pub runs : RunsWith command journal budget quiet
  pub papers : Papers
  pub routes : List (List PlannedVisit)
  pub asked : IsAsked call.files call.words command papers routes
  pub ends : RunEnds routes papers (run_settings budget quiet) call.talk end

-- how a call ends: it says one text, or it is a run of a sound plan
abbrev pub EndsAs : Call → Status → Type 0
EndsAs call end = IsTextCall call end ⊎ IsRunCall call end

-- a command ends well, at the limit of input, or for want of memory
abbrev pub IsSmooth : Command → Status → Type 0
IsSmooth command Done = Unit {0}
IsSmooth command Usage = ⊥
IsSmooth command Input = ⊥
IsSmooth command Journal = ⊥
IsSmooth command ReadFault = ⊥
IsSmooth command StationFault = ⊥
IsSmooth command Memory = Unit {0}
IsSmooth (Run m p journal budget quiet) Limit = Unit {0}
IsSmooth command Limit = ⊥

-- the text was sent whole, or memory was wanting
abbrev pub SendsIfMemory : Span → List ℕ → Status → Type 0
SendsIfMemory s text end = ((end ≡ Done) × Sends (sent_over s) text) ⊎ (end ≡ Memory)

-- the sides are told and stand for a state, if the command is a run
abbrev pub MayOpen : Command → List (List PlannedVisit) → Papers → Type 0 → Scene → Type 0
MayOpen (Run m p journal budget quiet) routes papers tells scene = tells × ((x : FleetState) × StandsFor routes papers scene x)
MayOpen _ routes papers tells scene = Unit {0}
