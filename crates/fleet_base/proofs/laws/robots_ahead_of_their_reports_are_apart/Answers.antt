use Rattle.fleet_base.specs.Order.{graph_of}
use Rattle.fleet_base.proofs.GraphLaws.{graph_of_routes}
use Rattle.fleet_base.proofs.WorldLaw.{no_collision}
use Rattle.fleet_base.proofs.laws.robots_ahead_of_their_reports_are_apart.Goals as goal

pub returns : goal.returns
returns c routes w are state ahead = no_collision routes (graph_of routes) w (graph_of_routes routes are) state ahead
