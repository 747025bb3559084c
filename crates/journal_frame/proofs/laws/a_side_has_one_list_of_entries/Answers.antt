use Rattle.journal_frame.proofs.FrameLaws.{entries_one}
use Rattle.journal_frame.proofs.laws.a_side_has_one_list_of_entries.Goals as goal

pub returns : goal.returns
returns c = entries_one
