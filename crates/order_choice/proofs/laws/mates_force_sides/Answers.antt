use Rattle.order_choice.proofs.ForcedSides.{mates_force}
use Rattle.order_choice.proofs.laws.mates_force_sides.Goals as goal

pub returns : goal.returns
returns c = mates_force
