use Rattle.std.proofs.Common.{ℕ, ◌≡◌, ◌<◌, ◌∙◌, List, Some, sym, ap, subst, length}
use Rattle.std.specs.Prelude.{slice_get}
use Rattle.fleet_base.specs.declared.order.Pair.{Pair}
use Rattle.fleet_base.specs.Order.{Graph, IsGraph, HasEdge}
use Rattle.fleet_base.proofs.Edges.{head_there}
use Rattle.plan_graph.specs.Views.{order_in}
use Rattle.longest_path.proofs.Leaving.{a_pair, same_where}
use Rattle.longest_path.proofs.heads.head_out_of.Goals as goal

pub returns-clause-edge : goal.returns-clause-edge
returns-clause-edge c =
    let g = c.args.view.now.graph in
    let p = a_pair g.pairs c.args.q.0 c.requires in
    let at : slice_get c.graph-2.result.now.pairs c.args.q.0 ≡ Some p.0 = subst (λ (h : Graph). slice_get h.pairs c.args.q.0 ≡ Some p.0) (sym c.graph-2.ensures) p.1 in
    let tail : c.edge_of-edge.result.tail ≡ c.args.v = same_where c.edge_of-edge.result.tail c.args.v c.if-ne.ensures in
    let edge : HasEdge g (order_in c.args.view.now) c.args.q.0 c.args.v c.edge_of-edge.result.head = record {
      pair = p.0;
      side = c.in_ok-side.side;
      listed = p.1;
      sided = sym c.in_ok-side.ensures;
      tail = sym tail ∙ c.edge_of-edge.ensures.tail p.0 at;
      head = c.edge_of-edge.ensures.head p.0 at;
    } in
    (edge, head_there g (order_in c.args.view.now) c.args.q.0 c.args.v c.edge_of-edge.result.head (subst (λ (h : Graph). IsGraph h) c.graph.ensures c.robots-within.ensures.graph) edge)
