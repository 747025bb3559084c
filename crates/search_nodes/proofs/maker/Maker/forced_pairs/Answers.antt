use Rattle.std.proofs.Common.{sym}
use Rattle.std.specs.Prelude.{IfOk}
use Rattle.edge_groups.specs.Mates.{AreAllMates}
use Rattle.longest_path.specs.Decisions.{order_on}
use Rattle.search_nodes.specs.Forcing.{AreThere, HasForced}
use Rattle.search_nodes.proofs.Inside.{to_live, from_live}
use Rattle.search_nodes.proofs.maker.Maker.forced_pairs.Goals as goal

pub forced_pairs-requires-clause-graph : goal.forced_pairs-requires-clause-graph
forced_pairs-requires-clause-graph c = sym c.self.invariant.live_graph

pub forced_pairs-requires-clause-mates : goal.forced_pairs-requires-clause-mates
forced_pairs-requires-clause-mates c = to_live c.self.inside c.self.invariant c.args.self.now c.self.view_is (λ g x ds. AreAllMates g c.args.groups.now) c.requires

pub returns-clause-forced : goal.returns-clause-forced
returns-clause-forced c =
    from_live c.self.inside c.self.invariant c.args.self.now c.self.view_is (λ g x ds. IfOk c.forced_pairs.result (λ suspects. HasForced g (order_on g x ds) suspects.keys)) c.forced_pairs.ensures.forced

pub returns-clause-there : goal.returns-clause-there
returns-clause-there c = from_live c.self.inside c.self.invariant c.args.self.now c.self.view_is (λ g x ds. IfOk c.forced_pairs.result (λ suspects. AreThere g suspects.keys)) c.forced_pairs.ensures.there
