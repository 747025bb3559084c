use Rattle.std.proofs.Common.{◌≡◌, ◌+◌, arith, ap, ◌∙◌, length}
use Rattle.fleet_base.specs.Order.{Graph}
use Rattle.plan_graph.proofs.Steps.{room_kept, begins, moves_on, ends, listed_below}
use Rattle.plan_graph.proofs.work.Work.run.Goals as goal

pub loop-robot-init : goal.loop-robot-init
loop-robot-init c =
    let e = c.clear.ensures in
    record {
      work = begins c.args.view.now c.clear.new.self 0 (room_kept c.args.view.now.graph c.args.self.now c.clear.new.self c.requires e.room) e.order e.cycle e.waiting e.listed e.passed;
      alone = e.waiting;
      done = λ j h. absurd (omega (arith, h));
    }

pub loop-robot-preserved : goal.loop-robot-preserved
loop-robot-preserved c =
    let listed = c.in-Order.ensures in
    record {
      work = moves_on c.args.view.now c.list_robot.new.self c.loop-robot.robot (c.loop-robot.robot + 1) listed.work listed.alone;
      alone = listed.alone;
      done = λ j h. listed_below c.args.view.now c.loop-robot.self c.list_robot.new.self c.loop-robot.robot listed c.loop-robot.invariant.done j h;
    }

pub returns : goal.returns
returns c =
    let robots : c.robots-robot-end.result ≡ length c.args.view.now.graph.lasts = c.robots-robot-end.ensures.count ∙ ap (λ (g : Graph). length g.lasts) c.graph.ensures in
    ends c.args.view.now c.loop-robot.self c.loop-robot.robot c.loop-robot.invariant.work
    (λ j h. c.loop-robot.invariant.done j (omega (arith, h, robots, c.loop-robot-test.false)))
