use Rattle.journal_frame.proofs.FrameLaws.{header_frame_one}
use Rattle.journal_frame.proofs.laws.a_side_has_one_header.Goals as goal

pub returns : goal.returns
returns c = header_frame_one
