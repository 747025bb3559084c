use Rattle.std.proofs.Common.{◌∙◌, ap, subst, Err}
use Rattle.std.specs.List.{AllByRecursion}
use Rattle.plan_text.specs.PlanText.{IsWritable}
use Rattle.plan_text.specs.PlanErrors.{IsFirstWide, WideIs}
use Rattle.fleet_cli.proofs.Writable.{holds_behind}
use Rattle.fleet_cli.proofs.generating.path_text.Goals as goal

pub unreachable-requires : goal.unreachable-requires
unreachable-requires c =
    let wide : IsFirstWide c.args.plan.now c.in-Err-Wide.field-0-0 = subst (WideIs c.args.plan.now) (c.in-Err-Wide.is ∙ ap Err c.in-Err-Wide.field-0-is) c.write_plan.ensures.wide in
    wide.wide (holds_behind IsWritable wide.above wide.path wide.below (subst (AllByRecursion IsWritable) wide.stands c.requires.writable))
