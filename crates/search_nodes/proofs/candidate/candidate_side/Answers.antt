use Rattle.std.proofs.Common.{sym}
use Rattle.longest_path.specs.Deciding.{order_in_force}
use Rattle.search_nodes.proofs.Conflicts.{given_side}
use Rattle.search_nodes.proofs.candidate.candidate_side.Goals as goal

pub returns-in-Some : goal.returns-in-Some
returns-in-Some c = given_side c.args.live.now.graph c.args.live.now.state (order_in_force c.args.live.now) c.args.q.0 c.in-Some.side (sym c.in-Some.ensures)
