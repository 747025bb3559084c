use Rattle.std.proofs.Common.{sym, subst}
use Rattle.fleet_base.specs.Order.{Graph}
use Rattle.fleet_base.specs.Rules.{IsFleetState}
use Rattle.rank_bench.proofs.schedules.schedule_often.Goals as goal

pub repeat-requires-clause-state : goal.repeat-requires-clause-state
repeat-requires-clause-state c = subst (λ (g : Graph). IsFleetState g c.in_ok-fleet.fleet) (sym c.in_ok-view.ensures) c.in_ok-fleet.ensures
