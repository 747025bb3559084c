use Rattle.journal_frame.proofs.FrameLaws.{blank_not_live}
use Rattle.journal_frame.proofs.laws.a_blank_side_is_not_live.Goals as goal

pub returns : goal.returns
returns c = blank_not_live
