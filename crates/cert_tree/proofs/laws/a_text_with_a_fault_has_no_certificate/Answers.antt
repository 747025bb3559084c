use Rattle.cert_tree.proofs.FaultLines.{no_certificate}
use Rattle.cert_tree.proofs.laws.a_text_with_a_fault_has_no_certificate.Goals as goal

pub returns : goal.returns
returns c = no_certificate
