use Rattle.longest_path.specs.Decisions.{order_on}
use Rattle.search_nodes.proofs.Bounds.{ArePathsTo}
use Rattle.search_nodes.proofs.maker.Maker.paths.Given as goal

abbrev pub invariant-loop-robot : goal.invariant-loop-robot
invariant-loop-robot l = ArePathsTo l.self.graph l.self.state (order_on l.self.graph l.self.state l.self.decisions) l.robot l.paths
