use Rattle.map_text.proofs.OneFault.{no_fault}
use Rattle.map_text.proofs.laws.a_map_has_no_fault.Goals as goal

pub returns : goal.returns
returns c = no_fault
