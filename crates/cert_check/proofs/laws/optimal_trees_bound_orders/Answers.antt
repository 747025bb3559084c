use Rattle.cert_tree.proofs.SoundOrders.{no_order_below}
use Rattle.cert_check.proofs.laws.optimal_trees_bound_orders.Goals as goal

pub returns : goal.returns
returns c = no_order_below
