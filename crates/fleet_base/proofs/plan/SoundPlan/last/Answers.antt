use Rattle.std.proofs.Common.{ap, arith, length, ◌∙◌, ◌<◌, List}
use Rattle.fleet_base.specs.declared.geometry.PlannedVisit.{PlannedVisit}
use Rattle.fleet_base.proofs.GraphLaws.{route_is_some}
use Rattle.fleet_base.proofs.Rows.{row_at}
use Rattle.fleet_base.proofs.plan.SoundPlan.last.Goals as goal

pub overflow_sub-result : goal.overflow_sub-result
overflow_sub-result c =
    let there : c.args.robot < length c.self.inside.routes = omega (arith, c.requires, ap (λ (rs : List (List PlannedVisit)). length rs) c.self.view_is) in
    let some = route_is_some c.self.inside.routes c.self.invariant c.args.robot there in
    let row = row_at c.self.inside.routes c.args.robot c.index-as_slice-robot.result there (rw c.as_slice.ensures at c.index-as_slice-robot.is) in
    omega (arith, some, ap (λ (route : List PlannedVisit). length route) (c.as_slice-2.ensures ∙ row))
