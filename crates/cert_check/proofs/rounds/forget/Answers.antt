use Rattle.std.proofs.Common.{sym, ◌∙◌, ap, length, arith}
use Rattle.cert_check.proofs.ForgetLaws.{row_len, same_rows, index_more, robot_more}
use Rattle.cert_check.proofs.rounds.forget.Goals as goal

pub set_in-requires-clause-at : goal.set_in-requires-clause-at
set_in-requires-clause-at c =
    let same = row_len c.loop-index.ticks c.loop-robot.ticks c.loop-robot.robot (c.loop-index.invariant.2 ∙ sym c.loop-robot.invariant.1) in
    omega (arith, same, ap length c.row-index-end.ensures, c.loop-index-test.true)

pub loop-index-preserved : goal.loop-index-preserved
loop-index-preserved c =
    let same = row_len c.loop-index.ticks c.loop-robot.ticks c.loop-robot.robot (c.loop-index.invariant.2 ∙ sym c.loop-robot.invariant.1) in
    index_more c.loop-index.ticks c.set_in.new.self _ c.loop-robot.robot c.loop-index.index (omega (arith, c.loop-robot-test.true, ap length c.as_slice-robot-end.ensures, same_rows c.loop-index.ticks _ c.loop-index.invariant.2)) (omega (arith, same, ap length c.row-index-end.ensures, c.loop-index-test.true)) c.set_in.ensures c.loop-index.invariant

pub loop-robot-preserved : goal.loop-robot-preserved
loop-robot-preserved c =
    let same = row_len c.loop-index.ticks c.loop-robot.ticks c.loop-robot.robot (c.loop-index.invariant.2 ∙ sym c.loop-robot.invariant.1) in
    (robot_more c.loop-index.ticks c.loop-robot.robot c.loop-index.index (omega (arith, same, ap length c.row-index-end.ensures, c.loop-index-test.false)) c.loop-index.invariant.0 c.loop-index.invariant.1, c.loop-index.invariant.2)
