use Rattle.cert_tree.proofs.SoundOrders.{no_order_below}
use Rattle.order_choice.proofs.laws.optimal_choices_are_cheapest.Goals as goal

pub returns : goal.returns
returns c = λ g x budget cost e order other cert list state chosen keeps sided sorted costs. no_order_below g x cost e chosen.shown.tree other list state chosen.shown.right keeps sided sorted costs
