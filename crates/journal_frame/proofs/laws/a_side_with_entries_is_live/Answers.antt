use Rattle.journal_frame.proofs.FrameLaws.{live_from_entries}
use Rattle.journal_frame.proofs.laws.a_side_with_entries_is_live.Goals as goal

pub returns : goal.returns
returns c = live_from_entries
