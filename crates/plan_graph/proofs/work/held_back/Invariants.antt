use Rattle.plan_graph.specs.Views.{order_in}
use Rattle.plan_graph.specs.Listing.{ArePassed}
use Rattle.plan_graph.proofs.work.held_back.Given as goal

abbrev pub invariant-loop-place : goal.invariant-loop-place
invariant-loop-place l = ArePassed l.view.graph (order_in l.view) l.listed l.visit l.place
