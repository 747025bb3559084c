use Rattle.std.proofs.Common.{◌∙◌, List, ap, sym}
use Rattle.fleet_base.specs.declared.geometry.PlannedVisit.{PlannedVisit}
use Rattle.fleet_base.specs.Order.{Graph}
use Rattle.fleet_base.specs.Pairs.{pairs_of}
use Rattle.fleet_base.proofs.Crossing.{is_the_graph}
use Rattle.fleet_base.proofs.tests.crossing_pairs.Goals as goal

pub from_list-requires-clause-all : goal.from_list-requires-clause-all
from_list-requires-clause-all c = sym (ap (λ (rs : List (List PlannedVisit)). pairs_of rs) c.requires ∙ ap (λ (g : Graph). g.pairs) is_the_graph)
