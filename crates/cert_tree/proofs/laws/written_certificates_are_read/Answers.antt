use Rattle.cert_tree.proofs.WrittenText.{written_is_read}
use Rattle.cert_tree.proofs.laws.written_certificates_are_read.Goals as goal

pub returns : goal.returns
returns c = written_is_read
