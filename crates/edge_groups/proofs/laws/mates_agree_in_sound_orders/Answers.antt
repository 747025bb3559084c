use Rattle.edge_groups.proofs.Agreeing.{mates_agree}
use Rattle.edge_groups.proofs.laws.mates_agree_in_sound_orders.Goals as goal

pub returns : goal.returns
returns c = λ g order q r sound. mates_agree g order sound q r
