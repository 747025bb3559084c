use Rattle.fleet_base.specs.Order.{graph_of}
use Rattle.fleet_base.proofs.GraphLaws.{graph_of_routes}
use Rattle.fleet_base.proofs.WorldLaw.{worlds_are_safe}
use Rattle.fleet_base.proofs.laws.worlds_beside_safe_marks_are_safe.Goals as goal

pub returns : goal.returns
returns c routes texts w events w' are ahead mark marks honest run =
    worlds_are_safe routes texts (graph_of routes) w events w' (graph_of_routes routes are) ahead mark marks honest run
