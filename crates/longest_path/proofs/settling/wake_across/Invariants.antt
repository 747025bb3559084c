use Rattle.plan_graph.specs.Views.{order_in}
use Rattle.longest_path.specs.Falling.{IsWaking}
use Rattle.longest_path.proofs.Falling.{AreWoken}
use Rattle.longest_path.proofs.settling.wake_across.Given as goal

abbrev pub invariant-loop-q : goal.invariant-loop-q
invariant-loop-q l = record {
  waking : IsWaking l.view.graph (order_in l.view) l.v l.rows l.initial.waiting l.waiting;
  woken : AreWoken l.view.graph l.fleet (order_in l.view) l.rows l.v l.tick l.waiting l.q-items l.q-index;
}
