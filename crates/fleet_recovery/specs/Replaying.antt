-- How a journal is read, entry by entry.
use Rattle.std.specs.Prelude.{◌≡◌, ℕ, ◌+◌, List, [], ◌∷◌, ◌++◌, drop, Bool, true, false, Option, Some, None}
use Rattle.fleet_base.specs.declared.order.PairId.{PairId}
use Rattle.fleet_base.specs.declared.report.Report.{Report}
use Rattle.fleet_base.specs.Order.{Graph}
use Rattle.fleet_base.specs.State.{FleetState}
use Rattle.station_api.specs.Scene.{Scene, side_of}
use Rattle.journal_frame.specs.declared.header.HeaderParts.{HeaderParts}
use Rattle.journal_frame.specs.Entries.{IsEntry}
use Rattle.fleet_journal.specs.declared.journal.OtherSide.{OtherSide}
use Rattle.fleet_journal.specs.Standing.{Standing}
use Rattle.fleet_journal.specs.Journal.{HasRead, Stands}
use Rattle.fleet_recovery.specs.declared.error.RecoverError.{RecoverError}
use Rattle.fleet_recovery.specs.Entries.{Enters, Leads}
use Rattle.fleet_recovery.specs.Image.{IsStuck}
use Rattle.fleet_recovery.specs.Answers.{Refuses}

-- the refusals of reading entries: a bad record only where this holds of its number
abbrev pub ReplayRefuses : (ℕ → Type 0) → RecoverError → Type 0
ReplayRefuses bad = Refuses (record { not_journal = ⊥; bad_record = bad; full = λ n. ⊥; other_plan = λ at. ⊥ })

-- the refusals of reading the entry of this number
abbrev pub EnterRefuses : ℕ → Type 0 → RecoverError → Type 0
EnterRefuses number bad = ReplayRefuses (λ n. (n ≡ number) × bad)

-- whatever the payload of this entry is, it leads from a state to another
abbrev pub EntersBy : Graph → FleetState → Report → List PairId → FleetState → Type 0
EntersBy g x report switched x' = (payload : List ℕ) → IsEntry payload (record { report = report; switched = switched }) → Enters g x payload x'

-- no payload of this entry leads on
abbrev pub EntersNowhere : Graph → FleetState → Report → List PairId → Type 0
EntersNowhere g x report switched = (payload : List ℕ) (x' : FleetState) → IsEntry payload (record { report = report; switched = switched }) → ¬ Enters g x payload x'

-- where the gate is closed the journal stands there; else one more entry was read, and led on
abbrev pub GoesOn : Graph → FleetState → FleetState → Standing → HeaderParts → List (List ℕ) → Scene → Bool → Type 0
GoesOn g x x' journal header entries scene false = Stands journal header entries scene × (x' ≡ x)
GoesOn g x x' journal header entries scene true = (payload : List ℕ) × HasRead journal header (entries ++ payload ∷ []) scene × Enters g x payload x'

-- the journal is stuck at its gate
abbrev pub StuckAt : Graph → FleetState → Standing → Scene → Type 0
StuckAt g x journal scene = IsStuck g x (drop journal.place (side_of journal.side scene))

-- entries were read, and led to the state
abbrev pub HasLed : Graph → FleetState → FleetState → Standing → HeaderParts → Scene → Type 0
HasLed g x x' journal header scene = (entries : List (List ℕ)) × HasRead journal header entries scene × Leads g x entries x'

-- all entries were read, and led to the state
abbrev pub HasLedToEnd : Graph → FleetState → FleetState → Standing → HeaderParts → Scene → Type 0
HasLedToEnd g x x' journal header scene = (entries : List (List ℕ)) × Stands journal header entries scene × Leads g x entries x'

-- some journal on this side has read entries that led to a state from which it is stuck
abbrev pub GetsStuck : Graph → FleetState → Standing → HeaderParts → Scene → ℕ → Type 0
GetsStuck g x journal header scene n =
    (at : Standing) × (entries : List (List ℕ)) × (last : FleetState) × (at.side ≡ journal.side) × HasRead at header entries scene × Leads g x entries last × StuckAt g last at scene × (n ≡ last.count + 1)

-- all entries were read, by a journal that is on the same side
abbrev pub IsReadAll : Graph → FleetState → FleetState → Standing → OtherSide → HeaderParts → Scene → Option (Standing × OtherSide) → Type 0
IsReadAll g x x' journal other header scene None = ⊥
IsReadAll g x x' journal other header scene (Some live) = HasLedToEnd g x x' live.0 header scene × (live.0.side ≡ journal.side) × (live.1 ≡ other)

-- entries were read, and led to the state; where there are no more, all of them were
abbrev pub HasLedUntil : Graph → FleetState → FleetState → Standing → HeaderParts → Scene → Bool → Type 0
HasLedUntil g x x' journal header scene true = HasLed g x x' journal header scene
HasLedUntil g x x' journal header scene false = HasLedToEnd g x x' journal header scene
