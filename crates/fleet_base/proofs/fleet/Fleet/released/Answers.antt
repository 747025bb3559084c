use Rattle.std.proofs.Common.{◌<◌, ap, arith, length}
use Rattle.fleet_base.specs.State.{FleetState}
use Rattle.fleet_base.proofs.FleetLaws.{last_is_small}
use Rattle.fleet_base.proofs.fleet.Fleet.released.Goals as goal

pub overflow_cast-result : goal.overflow_cast-result
overflow_cast-result c =
    let there : c.args.robot < length c.self.inside.lasts = omega (arith, c.requires, ap (λ (x : FleetState). length x.lasts) c.self.view_is) in
    omega (arith, last_is_small c.self.inside.lasts c.self.inside.plan_sides c.self.invariant.plan c.args.robot there, c.self.invariant.shape.releases.within c.args.robot there, c.count.ensures)
