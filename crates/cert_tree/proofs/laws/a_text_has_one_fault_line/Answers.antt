use Rattle.cert_tree.proofs.FaultLines.{one_fault_line}
use Rattle.cert_tree.proofs.laws.a_text_has_one_fault_line.Goals as goal

pub returns : goal.returns
returns c = one_fault_line
