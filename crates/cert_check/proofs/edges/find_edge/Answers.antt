use Rattle.std.proofs.Common.{sym, ◌∙◌}
use Rattle.cert_check.proofs.SideLaws.{tail_is_there}
use Rattle.cert_check.proofs.edges.find_edge.Goals as goal

pub returns-in-Some-clause-tail : goal.returns-in-Some-clause-tail
returns-in-Some-clause-tail c =
    tail_is_there c.args.graph.now c.args.fleet.now c.args.sides.now c.args.q.0 c.pair.result c.in-Some.side _ _ c.requires.state c.pair.ensures (sym c.side.ensures ∙ c.in-Some.is) c.edge.ensures.tail c.edge.ensures.head
