use Rattle.fleet_journal.proofs.OneJournal.{taken_not_blank, taken_is_journal}
use Rattle.fleet_journal.proofs.laws.a_side_taken_is_a_journal.Goals as goal

pub returns : goal.returns
returns c = record { blank = taken_not_blank; journal = taken_is_journal }
