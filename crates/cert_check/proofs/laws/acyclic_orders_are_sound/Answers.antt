use Rattle.cert_tree.proofs.SoundOrders.{acyclic_is_sound}
use Rattle.cert_check.proofs.laws.acyclic_orders_are_sound.Goals as goal

pub returns : goal.returns
returns c = acyclic_is_sound
