use Rattle.std.proofs.Common.{◌≡◌, refl}
use Rattle.std.specs.Prelude.{◌↔◌}
use Rattle.fleet_base.specs.Order.{IsCyclic}
use Rattle.plan_graph.specs.declared.work.Work.{Work}
use Rattle.plan_graph.specs.declared.ranking.Ranked.{Ranked}
use Rattle.plan_graph.specs.declared.ranking.Ranked.TheVariants.{Order, Cycle}
use Rattle.plan_graph.specs.Views.{OrientedGraph, order_in}
use Rattle.plan_graph.specs.Working.{WorkEnds}
use Rattle.plan_graph.proofs.Cycles.{cycle_refutes}
use Rattle.plan_graph.proofs.ranking.rank.Goals as goal

-- the view decides which of the two it is
cyclic_by_end : (view : OrientedGraph) (w : Work) (r : Ranked) → WorkEnds view w r → (r ≡ Cycle) ↔ IsCyclic view.graph (order_in view)
cyclic_by_end view w Order end = (λ e. cc, λ none. absurd (none w.order.items end.order))
cyclic_by_end view w Cycle end = (λ e. cycle_refutes view.graph (order_in view) w.cycle.items end.cycle, λ none. refl)

pub returns-clause-cyclic : goal.returns-clause-cyclic
returns-clause-cyclic c = cyclic_by_end c.args.view.now c.run.new.self c.run.result c.run.ensures
