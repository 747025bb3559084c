-- What a run sends whose journal was not opened.
use Rattle.std.specs.Prelude.{ℕ, ◌≡◌, ◌⊎◌, List, [], ◌∷◌, ◌++◌, codes}
use Rattle.fleet_base.specs.declared.status.Status.{Status}
use Rattle.fleet_base.specs.declared.status.Status.TheVariants.{Journal, StationFault, Memory}
use Rattle.fleet_base.specs.Bytes.{field}
use Rattle.fleet_journal.specs.declared.error.JournalError.TheVariants as journal_error
use Rattle.fleet_recovery.specs.declared.error.RecoverError.{RecoverError}
use Rattle.fleet_recovery.specs.declared.error.RecoverError.TheVariants as recover_error
use Rattle.fleet_serve.specs.Told.{Told, Sends, SendsPart}

-- the text refuses the journal, or the station failed within it, or there was no memory for it
abbrev pub SaysRefusal : List ℕ → Told → Type 0 → Status → Type 0
SaysRefusal text sent failed end = ((end ≡ Journal) × Sends sent text) ⊎ (((end ≡ StationFault) × failed × SendsPart sent [] text) ⊎ ((end ≡ Memory) × Sends sent []))

-- nothing is sent, and the status is this one
abbrev pub SaysNothing : Status → Told → Status → Type 0
SaysNothing status sent end = (end ≡ status) × Sends sent []

-- how each error is answered
abbrev pub IsRefusedSo : RecoverError → Told → Type 0 → Status → Type 0
IsRefusedSo (recover_error.Journal journal_error.NotJournal) sent failed end = SaysRefusal (codes "fault journal" ++ 10 ∷ []) sent failed end
IsRefusedSo (recover_error.Journal (journal_error.BadRecord n)) sent failed end = SaysRefusal (codes "fault record" ++ field n ++ 10 ∷ []) sent failed end
IsRefusedSo (recover_error.Journal (journal_error.Full n)) sent failed end = SaysNothing Memory sent end
IsRefusedSo (recover_error.Journal journal_error.Station) sent failed end = SaysNothing StationFault sent end
IsRefusedSo (recover_error.Journal journal_error.Memory) sent failed end = SaysNothing Memory sent end
IsRefusedSo (recover_error.OtherPlan at) sent failed end = SaysRefusal (codes "fault other" ++ field at ++ 10 ∷ []) sent failed end
IsRefusedSo recover_error.Memory sent failed end = SaysNothing Memory sent end

-- the error has no line
abbrev pub HasNoLine : RecoverError → Type 0
HasNoLine (recover_error.Journal journal_error.NotJournal) = ⊥
HasNoLine (recover_error.Journal (journal_error.BadRecord n)) = ⊥
HasNoLine (recover_error.Journal (journal_error.Full n)) = Unit {0}
HasNoLine (recover_error.Journal journal_error.Station) = Unit {0}
HasNoLine (recover_error.Journal journal_error.Memory) = Unit {0}
HasNoLine (recover_error.OtherPlan at) = ⊥
HasNoLine recover_error.Memory = Unit {0}
