-- Refusals, by the cases of an answer.
use Rattle.std.proofs.Common.{◌≡◌, Result, Ok, Err, IfErr, sym, subst}
use Rattle.fleet_journal.specs.declared.error.JournalError.{JournalError}
use Rattle.fleet_journal.specs.declared.error.JournalError.TheVariants.{NotJournal}
use Rattle.fleet_journal.specs.Answers.{FindRefuses}

-- the one refusal of a choice comes where it may
pub none_refused : {T : Type 0} (told none : Type 0) (r : Result T JournalError) → IfErr r (λ e. e ≡ NotJournal) → (told → IfErr r (λ _. none)) → IfErr r (FindRefuses (told → none))
none_refused told none (Ok value) only refused = tt
none_refused told none (Err e) only refused = subst (FindRefuses (told → none)) (sym only) refused
