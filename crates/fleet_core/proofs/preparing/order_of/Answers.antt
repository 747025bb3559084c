use Rattle.fleet_core.proofs.Switching.{order_is}
use Rattle.fleet_core.proofs.preparing.order_of.Goals as goal

pub returns : goal.returns
returns c = order_is c.args.graph.now c.args.fleet.now c.in_ok-view.view c.rank.new.room c.rank.result c.in_ok-view.ensures.graph c.in_ok-view.ensures.sides c.rank.ensures.ranked c.rank.ensures.cyclic.0
