use Rattle.journal_frame.proofs.EntryLaws.{entry_one}
use Rattle.journal_frame.proofs.laws.a_payload_is_of_one_entry.Goals as goal

pub returns : goal.returns
returns c = entry_one
