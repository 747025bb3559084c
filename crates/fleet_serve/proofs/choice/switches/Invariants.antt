use Rattle.plan_graph.specs.Views.{order_in}
use Rattle.fleet_serve.proofs.Switched.{AreFound}
use Rattle.fleet_serve.proofs.choice.switches.Given as goal

abbrev pub invariant-loop-number : goal.invariant-loop-number
invariant-loop-number l = AreFound l.graph l.fleet (order_in l.view) l.number l.switched
