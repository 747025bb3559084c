use Rattle.std.proofs.Common.{List, sym, ◌∙◌, subst}
use Rattle.fleet_base.specs.declared.geometry.Visit.{Visit}
use Rattle.fleet_base.specs.declared.order.PairId.{PairId}
use Rattle.fleet_base.specs.Order.{IsSoundOrder, order_of}
use Rattle.fleet_base.specs.State.{FleetState}
use Rattle.fleet_core.specs.Step.{Step}
use Rattle.fleet_core.proofs.Applied.{heard_sound}
use Rattle.fleet_core.proofs.Prepared.{handed_on, switched_to, switched_ready, step_from}
use Rattle.fleet_core.proofs.preparing.prepare.Goals as goal

pub switch-requires-clause-sound : goal.switch-requires-clause-sound
switch-requires-clause-sound c =
    subst (λ (y : FleetState). IsSoundOrder c.args.graph.now (order_of y.sides)) (sym c.in_ok-next.ensures) (heard_sound c.args.graph.now c.args.fleet.now c.args.report.now c.requires.state)

pub returns-in_err-switch-clause-refused : goal.returns-in_err-switch-clause-refused
returns-in_err-switch-clause-refused c =
    handed_on c.args.graph.now c.args.fleet.now c.in_ok-next.next c.switch.new.fleet c.args.report.now c.args.switched.now c.as_slice.result.now c.switch.result c.in_err-switch.field-0.0 c.from_residual-in_err-switch.result
    c.in_ok-next.ensures c.as_slice.ensures c.switch.ensures c.in_err-switch.was c.from_residual-in_err-switch.ensures.1

pub kept_order_releases-requires-clause-state : goal.kept_order_releases-requires-clause-state
kept_order_releases-requires-clause-state c =
    let done = switched_to c.args.graph.now c.args.fleet.now c.in_ok-next.next c.switch.new.fleet c.args.report.now c.args.switched.now c.as_slice.result.now c.switch.result c.in_ok-switch.field-0 c.in_ok-next.ensures c.as_slice.ensures c.switch.ensures c.in_ok-switch.was in
    switched_ready c.args.graph.now c.args.fleet.now c.args.report.now c.args.switched.now c.requires.state c.requires.proposal c.switch.new.fleet done.0 done.1

pub returns-clause-step : goal.returns-clause-step
returns-clause-step c =
    let done = switched_to c.args.graph.now c.args.fleet.now c.in_ok-next.next c.switch.new.fleet c.args.report.now c.args.switched.now c.as_slice.result.now c.switch.result c.in_ok-switch.field-0 c.in_ok-next.ensures c.as_slice.ensures c.switch.ensures c.in_ok-switch.was in
    let made = step_from c.args.graph.now c.args.fleet.now c.args.report.now c.args.switched.now c.requires.state c.requires.proposal c.switch.new.fleet c.kept_order_releases.new.out.list done.0 done.1 c.kept_order_releases.ensures.list in
    let same_pairs = c.in_ok-from_slice.ensures in
    let same_releases = c.in_ok-from_slice-2.ensures in (
      made.0,
      subst (λ (vs : List Visit). Step c.args.graph.now c.args.fleet.now c.args.report.now c.in_ok-from_slice.field-0 vs made.0) (sym (same_releases ∙ c.list.ensures))
          (subst (λ (qs : List PairId). Step c.args.graph.now c.args.fleet.now c.args.report.now qs c.kept_order_releases.new.out.list made.0) (sym (same_pairs ∙ c.as_slice-2.ensures)) made.1),
    )
