use Rattle.std.proofs.Common.{ℕ, ◌∙◌, ap, arith}
use Rattle.fleet_base.specs.Order.{last_in}
use Rattle.fleet_base.specs.VisitRows.{tick_in}
use Rattle.cert_tree.proofs.Walks.{sum_next}
use Rattle.cert_check.proofs.rounds.end_sum.Goals as goal

pub loop-robot-preserved : goal.loop-robot-preserved
loop-robot-preserved c =
    let f : ℕ → ℕ = λ i. tick_in c.args.ticks.now (record { robot = i; index = last_in c.args.graph.now i }) in
    let last = ap (λ k. tick_in c.args.ticks.now (record { robot = c.loop-robot.robot; index = k })) c.last-index.ensures in
    (sum_next f c.loop-robot.robot c.loop-robot.sum _ c.tick_of.result c.loop-robot.invariant.0 (c.tick_of.ensures ∙ last) (omega arith), omega (arith, c.loop-robot.invariant.1, c.tick_of.ensures, c.requires.bound (record { robot = c.loop-robot.robot; index = c.last-index.result })))
