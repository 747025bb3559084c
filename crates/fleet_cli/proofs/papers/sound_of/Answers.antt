use Rattle.std.proofs.Common.{◌<◌, arith, length}
use Rattle.fleet_cli.proofs.Pieces.{visits_more}
use Rattle.fleet_cli.proofs.papers.sound_of.Goals as goal

pub overflow_add-visits-in-loop-robot : goal.overflow_add-visits-in-loop-robot
overflow_add-visits-in-loop-robot c =
    let there : c.loop-robot.robot < length c.args.papers.now.plan = omega (arith, c.loop-robot-test.true, c.robots-robots.ensures.count) in
    omega (arith, (visits_more c.args.papers.now.plan c.robots-robots.ensures.sound c.loop-robot.robot there).1, c.loop-robot.invariant, c.from.ensures, c.last.ensures)

pub loop-robot-preserved : goal.loop-robot-preserved
loop-robot-preserved c =
    let there : c.loop-robot.robot < length c.args.papers.now.plan = omega (arith, c.loop-robot-test.true, c.robots-robots.ensures.count) in
    omega (arith, (visits_more c.args.papers.now.plan c.robots-robots.ensures.sound c.loop-robot.robot there).0, c.loop-robot.invariant, c.from.ensures, c.last.ensures)
