use Rattle.std.proofs.Common.{◌<◌, length, arith}
use Rattle.plan_check.proofs.Firsts.{jump_first, jump_none}
use Rattle.plan_check.proofs.paths.jump_at.Goals as goal

pub returns-then-jumps_at : goal.returns-then-jumps_at
returns-then-jumps_at c = λ grid.
    let there : c.loop-robot.robot < length c.args.raw.now = omega arith in
    let here = c.jumps_at.ensures.0 c.if-jumps_at.true in
    jump_first grid c.args.raw.now c.args.tick c.loop-robot.robot (there, here.0, here.1, here.2) (λ j lt f. c.loop-robot.invariant j lt (f.1, f.2, f.3))

pub returns : goal.returns
returns c = λ grid. jump_none grid c.args.raw.now c.args.tick (λ i lt f. c.loop-robot.invariant i (omega (arith, lt)) (f.1, f.2, f.3))
