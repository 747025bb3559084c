use Rattle.plan_graph.specs.Views.{order_in}
use Rattle.longest_path.specs.Rising.{IsHanding}
use Rattle.longest_path.proofs.Handing.{AreObeyed}
use Rattle.longest_path.proofs.spreading.hand_across.Given as goal
use Rattle.fleet_base.specs.VisitRows.{tick_in}

abbrev pub invariant-loop-q : goal.invariant-loop-q
invariant-loop-q l = record {
  handing : IsHanding l.view.graph l.fleet (order_in l.view) l.v l.tick l.initial.rows l.initial.work l.rows l.work;
  obeyed : AreObeyed l.view.graph l.fleet (order_in l.view) (tick_in l.rows) l.v l.tick l.q-items l.q-index;
}
