use Rattle.cert_tree.proofs.SameNodes.{one_certificate}
use Rattle.cert_tree.proofs.laws.lines_have_one_certificate.Goals as goal

pub returns : goal.returns
returns c = one_certificate
