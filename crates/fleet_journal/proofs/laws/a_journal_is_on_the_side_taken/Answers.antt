use Rattle.fleet_journal.proofs.OneJournal.{keeps_taken, reads_taken}
use Rattle.fleet_journal.proofs.laws.a_journal_is_on_the_side_taken.Goals as goal

pub returns : goal.returns
returns c = record { keeps = keeps_taken; reads = reads_taken }
