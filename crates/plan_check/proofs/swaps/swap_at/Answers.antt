use Rattle.plan_check.proofs.Exchanges.{first_swap}
use Rattle.plan_check.proofs.swaps.swap_at.Goals as goal

pub returns-in-Some : goal.returns-in-Some
returns-in-Some c = first_swap c.args.raw.now c.args.tick c.requires.apart c.loop-robot.robot c.in-Some.other c.in-Some.ensures c.loop-robot.invariant
