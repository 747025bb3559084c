use Rattle.journal_frame.proofs.HeaderLaws.{header_one}
use Rattle.journal_frame.proofs.laws.a_payload_is_of_one_header.Goals as goal

pub returns : goal.returns
returns c = header_one
