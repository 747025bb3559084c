use Rattle.fleet_journal.proofs.OneJournal.{taken_one}
use Rattle.fleet_journal.proofs.laws.one_side_is_taken.Goals as goal

pub returns : goal.returns
returns c = taken_one
