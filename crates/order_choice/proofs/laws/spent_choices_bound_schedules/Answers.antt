use Rattle.std.proofs.Common.{[]}
use Rattle.cert_tree.proofs.TreeBound.{leaf_below, spent_below}
use Rattle.order_choice.proofs.laws.spent_choices_bound_schedules.Goals as goal

pub returns-clause-below : goal.returns-clause-below
returns-clause-below c = λ g x budget cost least order cert chosen. leaf_below g x cost least chosen.shown.tree [] chosen.shown.right.spent least chosen.shown.right.reached

pub returns-clause-bound : goal.returns-clause-bound
returns-clause-bound c = λ g x budget cost least order cert s state chosen lawful. spent_below g x cost least budget chosen.shown.tree s state chosen.shown.right lawful
