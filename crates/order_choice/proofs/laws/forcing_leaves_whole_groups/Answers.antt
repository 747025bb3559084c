use Rattle.order_choice.proofs.ForcedSides.{group_left, new_group}
use Rattle.order_choice.proofs.laws.forcing_leaves_whole_groups.Goals as goal

pub returns : goal.returns
returns c = λ g x way q forced free. (group_left g x way q forced free, new_group g x way q forced free)
