-- What is read at a place of a side.
use Rattle.std.specs.Prelude.{◌≡◌, ◌↔◌, ℕ, ◌+◌, ◌≤◌, ◌<◌, ◌^◌, List, length, take, drop, get_or, Option, Some, None, Vec, IsTrue}
use Rattle.std.specs.Int.{w32, to_be_bytes}
use Rattle.std.specs.declared.alloc.Global.{Global}
use Rattle.journal_frame.specs.Headers.{IsHeader}
use Rattle.journal_frame.specs.Frames.{HasFrame, HasHeader, IsBlank, IsForeign}
use Rattle.fleet_journal.specs.Sides.{IsClean}
use Rattle.fleet_journal.specs.declared.error.JournalError.{JournalError}
use Rattle.fleet_journal.specs.declared.error.JournalError.TheVariants.{NotJournal, BadRecord, Full, Station, Memory}
use Rattle.fleet_journal.specs.declared.reading.Front.{Front}
use Rattle.fleet_journal.specs.declared.found.Found.{Found}
use Rattle.fleet_journal.specs.declared.found.Found.TheVariants.{Blank, Live, Foreign}

-- The first bytes of a frame at a place: its gate, or 0 past the end of the side; the length of its payload, where that is there; and the end of the side.
pub record IsFront (bytes : List ℕ) (place : ℕ) (front : Front) : Type 0 where
  pub gate : front.gate ≡ get_or (drop place bytes) 0 0
  pub size : place + 5 ≤ length bytes → take 4 (drop (place + 1) bytes) ≡ to_be_bytes w32 front.size
  pub short : front.size < 2 ^ 32
  pub end : front.end ≡ length bytes

-- what five bytes say of a frame that begins with them
pub record SaysFront (five : List ℕ) (end : ℕ) (front : Front) : Type 0 where
  pub gate : front.gate ≡ get_or five 0 0
  pub size : take 4 (drop 1 five) ≡ to_be_bytes w32 front.size
  pub short : front.size < 2 ^ 32
  pub end_is : front.end ≡ end

-- the payload of the whole frame at a place, and nothing where there is none
abbrev pub IsFrameAt : List ℕ → ℕ → Option (Vec ℕ Global) → Type 0
IsFrameAt bytes place None = (gate : ℕ) (payload : List ℕ) → ¬ HasFrame (drop place bytes) gate payload
IsFrameAt bytes place (Some payload) = HasFrame (drop place bytes) (get_or (drop place bytes) 0 0) payload.items

-- the payload has the length that the front says, and the gate behind it lies within the side
abbrev pub FitsFront : ℕ → Front → Option (Vec ℕ Global) → Type 0
FitsFront place front None = Unit {0}
FitsFront place front (Some payload) = (length payload.items ≡ front.size) × (place + 5 + front.size < front.end)

-- the answers that say nothing of the bytes
abbrev pub IsFaultOrMemory : JournalError → Type 0
IsFaultOrMemory NotJournal = ⊥
IsFaultOrMemory (BadRecord n) = ⊥
IsFaultOrMemory (Full n) = ⊥
IsFaultOrMemory Station = Unit {0}
IsFaultOrMemory Memory = Unit {0}

-- what a side is: blank, live with a header whose payload has a length, or foreign
abbrev pub IsFoundOn : List ℕ → Found → Type 0
IsFoundOn bytes (Blank clean) = IsBlank bytes × (IsTrue clean ↔ IsClean bytes)
IsFoundOn bytes (Live header size) = (payload : List ℕ) × IsHeader payload header × HasHeader bytes payload × (size ≡ length payload)
IsFoundOn bytes Foreign = IsForeign bytes
