use Rattle.std.proofs.Common.{◌+◌, sym, ◌∙◌, subst, arith}
use Rattle.std.proofs.lemmas.Bool.{false≢true}
use Rattle.plan_graph.specs.Views.{order_in}
use Rattle.order_choice.proofs.Switches.{switched_sound}
use Rattle.fleet_serve.proofs.Choices.{found_open}
use Rattle.fleet_serve.proofs.Switched.{AreFound, none_found, same_found, other_found, all_found}
use Rattle.fleet_serve.proofs.choice.switches.Goals.{then-not-keeps_side+in_ok-push, else-not-keeps_side}
use Rattle.fleet_serve.proofs.choice.switches.Goals as goal

pub loop-number-init : goal.loop-number-init
loop-number-init c = subst (λ s. AreFound c.args.graph.now c.args.fleet.now (order_in c.args.view.now) 0 s) (sym c.new-switched.ensures) (none_found c.args.graph.now c.args.fleet.now (order_in c.args.view.now))

pub loop-number-preserved : goal.loop-number-preserved
loop-number-preserved c =
    let g = c.args.graph.now in
    let x = c.args.fleet.now in
    let order = order_in c.args.view.now in
    let k = c.loop-number.number in
    elim c.if-not-keeps_side.branch [
      | then-not-keeps_side+in_ok-push w ↦ subst (λ s. AreFound g x order (k + 1) s) (sym (w.switched-is ∙ w.in_ok-push.ensures.ok)) (other_found g x order (record { 0 = k }) c.loop-number.switched c.loop-number.invariant (λ e. false≢true (sym w.if-not-keeps_side.true ∙ c.keeps_side.ensures.1 e)))
      | else-not-keeps_side w ↦ subst (λ s. AreFound g x order (k + 1) s) (sym w.switched-is) (same_found g x order k c.loop-number.switched c.loop-number.invariant (c.keeps_side.ensures.0 w.if-not-keeps_side.false))
    ]

-- all pairs were looked at
pub returns-clause-differ : goal.returns-clause-differ
returns-clause-differ c =
    all_found c.args.graph.now c.args.fleet.now (order_in c.args.view.now) c.loop-number.number c.loop-number.switched (omega (arith, c.loop-number-test.false, c.loop-number.auto.number-end, c.pair_count-number-end.ensures)) c.requires.closed c.loop-number.invariant

pub returns-clause-open : goal.returns-clause-open
returns-clause-open c = found_open c.args.graph.now c.args.fleet.now (order_in c.args.view.now) c.loop-number.switched c.requires.state c.requires.sound c.requires.closed (returns-clause-differ c)

pub returns-clause-sound : goal.returns-clause-sound
returns-clause-sound c = switched_sound c.args.graph.now c.args.fleet.now (order_in c.args.view.now) c.loop-number.switched c.requires.state c.requires.sound c.requires.closed (returns-clause-differ c)
