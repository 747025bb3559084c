use Rattle.std.proofs.Common.{arith}
use Rattle.search_nodes.proofs.Undoing.{undone_more}
use Rattle.search_nodes.proofs.forcing.undo_to.Goals as goal

pub loop-live-preserved : goal.loop-live-preserved
loop-live-preserved c =
    let now = c.loop-live.invariant in
    let step = undone_more c.args.live.now c.loop-live.live c.undo.new.self now.0 now.1 (omega (arith, c.loop-live-test.true, c.depth.ensures)) c.undo.ensures in
    (step.0, omega (arith, step.1, now.1), omega (arith, step.1, c.loop-live-test.true, c.depth.ensures))
