use Rattle.std.proofs.Common.{List, sym, ◌∙◌, subst}
use Rattle.std.specs.Prelude.{All}
use Rattle.fleet_base.specs.declared.geometry.Visit.{Visit}
use Rattle.fleet_base.specs.declared.order.PairId.{PairId}
use Rattle.fleet_base.specs.Order.{Graph, graph_of}
use Rattle.fleet_base.specs.Plan.{IsOnRoute}
use Rattle.fleet_base.specs.Rules.{IsFleetState}
use Rattle.fleet_core.specs.Step.{Step, heard_of}
use Rattle.fleet_core.proofs.Delaying.{step_keeps_rules}
use Rattle.fleet_serve.specs.Chosen.{Chooses}
use Rattle.fleet_serve.specs.Deciding.{IsFrameOf}
use Rattle.fleet_serve.proofs.Texts.{new_on_route}
use Rattle.fleet_serve.proofs.Decided.{entering, may_switch}
use Rattle.fleet_serve.proofs.decision.enter.Goals as goal

pub frame_of-requires-clause-order : goal.frame_of-requires-clause-order
frame_of-requires-clause-order c = may_switch c.args.session.now.graph.now c.args.fleet.now c.args.report.now _ c.in_ok-switched.ensures.proposal

pub entry_text-requires : goal.entry_text-requires
entry_text-requires c =
    let e = c.in_ok-entry.entry in
    let s = c.in_ok-entry.ensures.step in
    let rules = step_keeps_rules c.args.session.now.graph.now c.args.fleet.now e.report e.switched e.releases s.0 c.requires.state s.1 in
    subst (λ (vs : List Visit). All (λ v. IsOnRoute c.args.session.now.plan.now v) vs) (sym (c.as_slice.ensures ∙ s.1.releases_are))
    (new_on_route c.args.session.now.plan.now (heard_of c.args.fleet.now e.report) s.0 c.robots-robots.ensures.sound (subst (λ (g : Graph). IsFleetState g s.0) c.requires.graph rules))

pub returns-clause-entering : goal.returns-clause-entering
returns-clause-entering c place =
    let e = c.in_ok-entry.entry in
    let s = c.in_ok-entry.ensures.step in
    let step = subst (λ (g : Graph). Step g c.args.fleet.now e.report e.switched e.releases s.0) c.requires.graph s.1 in
    let t = c.in_ok-switched.ensures.tells in
    let chooses = subst (λ (qs : List PairId). Chooses (graph_of c.args.session.now.plan.now) c.args.session.now.settings.now c.args.fleet.now c.args.report.now qs t.0) (sym c.in_ok-entry.ensures.switched) (subst (λ (g : Graph). Chooses g c.args.session.now.settings.now c.args.fleet.now c.args.report.now c.in_ok-switched.field-0.switched t.0) c.requires.graph t.1) in
    entering c.args.session.now.plan.now c.args.session.now.settings.now c.args.fleet.now place s.0 c.args.report.now e c.in_ok-frame.frame c.as_slice.result.now c.count-count.result t.0 c.in_ok-switched.field-0.text c.in_ok-text.text
    c.in_ok-entry.ensures.report chooses step (subst (λ (qs : List PairId). IsFrameOf c.args.report.now qs c.in_ok-frame.frame) (sym c.in_ok-entry.ensures.switched) c.in_ok-frame.ensures) c.as_slice.ensures c.count-count.ensures
    t.2 c.in_ok-text.ensures
