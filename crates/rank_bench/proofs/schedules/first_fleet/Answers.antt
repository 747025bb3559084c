use Rattle.std.proofs.Common.{sym, subst}
use Rattle.fleet_base.specs.Order.{Graph}
use Rattle.fleet_base.specs.Rules.{IsFleetState}
use Rattle.rank_bench.proofs.schedules.first_fleet.Goals as goal

pub returns-in-Ok : goal.returns-in-Ok
returns-in-Ok c = subst (λ (g : Graph). IsFleetState g c.in-Ok.fleet) (sym c.requires.graph) c.in-Ok.ensures.rules
