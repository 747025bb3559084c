use Rattle.std.proofs.Common.{true, cond, ◌+◌, ◌^◌, ◌∙◌, ◌≡◌, ◌<◌, length, sym, ap, subst, refl, arith}
use Rattle.fleet_base.specs.Order.{last_in}
use Rattle.fleet_base.specs.VisitRows.{tick_in}
use Rattle.plan_graph.proofs.PlanGraphs.{index_within}
use Rattle.cert_check.specs.Sides.{order_by}
use Rattle.cert_check.proofs.SideLaws.{keeps}
use Rattle.cert_check.proofs.RoundLaws.{Raising, has_ticks_kept, raising_step, raising_row, raised_all}
use Rattle.cert_check.proofs.rounds.raise_all.Goals as goal
use Rattle.cert_check.proofs.rounds.raise_all.Goals.{then-raise, else-raise}

pub raise-requires-clause-ticks : goal.raise-requires-clause-ticks
raise-requires-clause-ticks c = has_ticks_kept c.args.graph.now c.args.ticks.now c.loop-index.ticks c.requires.ticks c.loop-index.invariant.1

pub raise-requires-clause-bound : goal.raise-requires-clause-bound
raise-requires-clause-bound c =
    let there : c.loop-robot.robot < length c.args.graph.now.lasts = omega (arith, c.loop-robot-test.true, c.robots-robot-end.ensures.count) in
    let last = index_within c.args.graph.now c.robots-within.ensures.limits (record { robot = c.loop-robot.robot; index = last_in c.args.graph.now c.loop-robot.robot }) (record { robot = there; index = omega arith }) in
    λ v. omega (arith, c.loop-index.invariant.0.bound (2 ^ 61) (omega arith) c.requires.bound v, c.robots-within.ensures.limits.robots.1, there, last, c.loop-index-test.true, c.last-index-end.ensures)

pub loop-index-preserved : goal.loop-index-preserved
loop-index-preserved c =
    let there : c.loop-robot.robot < length c.args.graph.now.lasts = omega (arith, c.loop-robot-test.true, c.robots-robot-end.ensures.count) in
    let flag : c.if-raise.raised ≡ cond c.raise.result true c.loop-index.raised = elim c.if-raise.branch [
      | then-raise w ↦ w.raised-is ∙ ap (λ b. cond b true c.loop-index.raised) (sym w.if-raise.true)
      | else-raise w ↦ w.raised-is ∙ ap (λ b. cond b true c.loop-index.raised) (sym w.if-raise.false)
    ] in (
      raising_step c.args.graph.now c.args.fleet.now (order_by c.args.graph.now c.args.fleet.now c.args.sides.now) c.requires.state (keeps c.args.graph.now c.args.fleet.now c.args.sides.now) (tick_in c.args.ticks.now) (tick_in c.loop-index.ticks) (tick_in c.raise.new.ticks) c.loop-robot.robot c.loop-index.index c.loop-index.raised c.raise.result c.if-raise.raised (record { robot = c.loop-robot.robot; index = c.loop-index.index }) refl refl
          (record { robot = there; index = omega (arith, c.loop-index-test.true, c.last-index-end.ensures) }) c.loop-index.invariant.0 c.raise.ensures.raises flag,
      c.raise.ensures.rows ∙ c.loop-index.invariant.1,
    )

pub loop-robot-preserved : goal.loop-robot-preserved
loop-robot-preserved c =
    let there : c.loop-robot.robot < length c.args.graph.now.lasts = omega (arith, c.loop-robot-test.true, c.robots-robot-end.ensures.count) in
    let index : c.loop-index.index ≡ last_in c.args.graph.now c.loop-robot.robot + 1 = omega (arith, c.loop-index-test.false, c.loop-index.auto.index-end, c.last-index-end.ensures) in (
      raising_row c.args.graph.now c.args.fleet.now (order_by c.args.graph.now c.args.fleet.now c.args.sides.now) c.requires.state c.robots-within.ensures.limits (tick_in c.args.ticks.now) (tick_in c.loop-index.ticks) c.loop-robot.robot c.loop-index.raised there
          (subst (λ k. Raising c.args.graph.now c.args.fleet.now (order_by c.args.graph.now c.args.fleet.now c.args.sides.now) (tick_in c.args.ticks.now) (tick_in c.loop-index.ticks) c.loop-robot.robot k c.loop-index.raised) index c.loop-index.invariant.0),
      c.loop-index.invariant.1,
    )

pub returns-clause-raises : goal.returns-clause-raises
returns-clause-raises c =
    let robot : c.loop-robot.robot ≡ length c.args.graph.now.lasts = omega (arith, c.loop-robot-test.false, c.loop-robot.auto.robot-end, c.robots-robot-end.ensures.count) in
    raised_all c.args.graph.now c.args.fleet.now (order_by c.args.graph.now c.args.fleet.now c.args.sides.now) c.requires.state c.robots-within.ensures.limits (tick_in c.args.ticks.now) (tick_in c.loop-robot.ticks) c.loop-robot.raised
    (subst (λ k. Raising c.args.graph.now c.args.fleet.now (order_by c.args.graph.now c.args.fleet.now c.args.sides.now) (tick_in c.args.ticks.now) (tick_in c.loop-robot.ticks) k 0 c.loop-robot.raised) robot c.loop-robot.invariant.0)
