use Rattle.std.proofs.Common.{◌+◌, sym, subst, arith}
use Rattle.fleet_base.specs.declared.geometry.Cell.{Cell}
use Rattle.path_planner.specs.Tables.{HasPlace}
use Rattle.path_planner.proofs.TableLaws.{one_robot, all_robots, covers_same}
use Rattle.path_planner.proofs.steps.turn_to.Goals as goal

pub put-requires : goal.put-requires
put-requires c =
    let so = c.loop-robot.invariant in
    subst (λ (at : Cell). HasPlace c.loop-robot.traffic at) (sym c.cell_of-at.ensures)
    (so.covers _ (c.requires.sound.free c.loop-robot.robot (c.args.tick + 1) (omega (arith, c.loop-robot-test.true, c.robots-robot-end.ensures))))

pub loop-robot-preserved : goal.loop-robot-preserved
loop-robot-preserved c =
    let so = c.loop-robot.invariant in
    record {
      covers = covers_same c.args.grid.now c.loop-robot.traffic _ so.covers c.put.ensures.sides;
      robots = one_robot c.args.fixed.now (c.args.tick + 1) c.loop-robot.robot c.loop-robot.traffic _ c.cell_of-at.result c.requires.sound.apart (omega (arith, c.loop-robot-test.true, c.robots-robot-end.ensures))
          c.cell_of-at.ensures so.robots c.put.ensures.here c.put.ensures.others;
    }

pub returns-clause-robots : goal.returns-clause-robots
returns-clause-robots c = all_robots c.args.fixed.now (c.args.tick + 1) c.loop-robot.robot c.loop-robot.traffic c.loop-robot.invariant.robots (omega (arith, c.loop-robot-test.false, c.robots-robot-end.ensures))
