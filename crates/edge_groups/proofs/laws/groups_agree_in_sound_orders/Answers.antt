use Rattle.edge_groups.proofs.Agreeing.{group_agrees}
use Rattle.edge_groups.proofs.laws.groups_agree_in_sound_orders.Goals as goal

pub returns : goal.returns
returns c = λ g order q r sound. group_agrees g order sound q r
