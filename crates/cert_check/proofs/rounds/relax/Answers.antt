use Rattle.std.proofs.Common.{◌+◌, ◌*◌, ◌∙◌, subst, arith}
use Rattle.cert_check.specs.Sides.{order_by}
use Rattle.cert_check.specs.Rounds.{RaisesAll}
use Rattle.cert_check.proofs.SideLaws.{keeps}
use Rattle.cert_check.proofs.RoundLaws.{has_ticks_kept, relaxing_more, relaxing_done, relaxing_ends}
use Rattle.cert_check.proofs.rounds.relax.Goals as goal
use Rattle.fleet_base.specs.VisitRows.{tick_in}

pub raise_all-requires-clause-ticks : goal.raise_all-requires-clause-ticks
raise_all-requires-clause-ticks c = has_ticks_kept c.args.graph.now c.args.ticks.now _ c.requires.ticks c.loop-round.invariant.1

pub returns-then-not-raise_all-clause-least : goal.returns-then-not-raise_all-clause-least
returns-then-not-raise_all-clause-least c =
    let g = c.args.graph.now in
    let x = c.args.fleet.now in
    let order = order_by g x c.args.sides.now in
    let one = subst (λ b. RaisesAll g x order (tick_in c.loop-round.ticks) (tick_in c.raise_all.new.ticks) b) c.if-not-raise_all.true c.raise_all.ensures.raises in
    λ e. relaxing_done g x order c.requires.state (keeps g x c.args.sides.now) c.loop-round._round (tick_in c.loop-round.ticks) (tick_in c.raise_all.new.ticks) c.loop-round.invariant.0 one

pub returns-then-not-raise_all-clause-bound : goal.returns-then-not-raise_all-clause-bound
returns-then-not-raise_all-clause-bound c =
    λ v. omega (arith, c.raise_all.ensures.raises.bound (2000000000000 + c.loop-round._round * (16777216 * 1000001)) (omega arith) c.loop-round.invariant.0.bound v, c.loop-round-test.true, c.visit_count-round-end.ensures, c.robots-within.ensures.limits.visits)

pub loop-round-preserved : goal.loop-round-preserved
loop-round-preserved c =
    let g = c.args.graph.now in
    let x = c.args.fleet.now in
    let order = order_by g x c.args.sides.now in
    let one = subst (λ b. RaisesAll g x order (tick_in c.loop-round.ticks) (tick_in c.raise_all.new.ticks) b) c.if-not-raise_all.false c.raise_all.ensures.raises in
    (relaxing_more g x order c.requires.state c.loop-round._round (tick_in c.loop-round.ticks) (tick_in c.raise_all.new.ticks) c.loop-round.invariant.0 one, c.raise_all.ensures.rows ∙ c.loop-round.invariant.1)

pub returns-clause-cyclic : goal.returns-clause-cyclic
returns-clause-cyclic c =
    let g = c.args.graph.now in
    let x = c.args.fleet.now in
    λ e list sorted. relaxing_ends g x (order_by g x c.args.sides.now) c.requires.state c.loop-round._round (tick_in c.loop-round.ticks) c.loop-round.invariant.0 (omega (arith, c.loop-round-test.false, c.visit_count-round-end.ensures)) list sorted
