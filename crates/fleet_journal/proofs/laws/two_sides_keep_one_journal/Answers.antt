use Rattle.fleet_journal.proofs.OneJournal.{keeps_one}
use Rattle.fleet_journal.proofs.laws.two_sides_keep_one_journal.Goals as goal

pub returns : goal.returns
returns c = keeps_one
