use Rattle.map_text.proofs.OneFault.{one_map}
use Rattle.map_text.proofs.laws.a_text_means_one_map.Goals as goal

pub returns : goal.returns
returns c = one_map
