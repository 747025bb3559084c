use Rattle.std.proofs.Common.{List, subst, sym}
use Rattle.fleet_base.specs.declared.geometry.Cell.{Cell}
use Rattle.fleet_base.specs.Grid.{OccupancyGrid}
use Rattle.fleet_base.specs.Plan.{IsAccepted}
use Rattle.fleet_base.specs.Examples.{crossing_map}
use Rattle.fleet_base.proofs.Crossing.{crossing_is_accepted}
use Rattle.switch_pairs.proofs.tests.crossing.Goals as goal

pub from_raw-requires : goal.from_raw-requires
from_raw-requires c =
    let grid = rw c.in-Ok-Some.field-0-is at c.in-Ok-Some.ensures in
    subst (λ (g : OccupancyGrid). IsAccepted g c.in_ok-raw.raw) (sym grid)
    (subst (λ (plan : List (List Cell)). IsAccepted crossing_map plan) (sym c.in_ok-raw.ensures) crossing_is_accepted)
