use Rattle.std.proofs.Common.{◌≡◌, ◌∙◌, ap, sym, arith, length}
use Rattle.std.specs.Prelude.{flat_map}
use Rattle.fleet_base.specs.Lists.{range}
use Rattle.switch_pairs.specs.Found.{pairs_of_lower}
use Rattle.switch_pairs.proofs.Counting.{pairs_are, count_more}
use Rattle.switch_pairs.proofs.count.count_pairs.Goals as goal

pub loop-robot-preserved : goal.loop-robot-preserved
loop-robot-preserved c = record {
  so_far = omega (arith, count_more c.args.plan.now c.loop-robot.robot, c.loop-robot.invariant.so_far, c.count_of_robot-count.ensures.count);
  few = omega (arith, c.loop-robot.invariant.few, c.count_of_robot-count.ensures.few);
}

pub returns : goal.returns
returns c =
    let all : c.loop-robot.robot ≡ length c.args.plan.now = omega arith in
    c.loop-robot.invariant.so_far ∙ ap length (ap (λ n. flat_map (pairs_of_lower c.args.plan.now) (range 0 n)) all ∙ sym (pairs_are c.args.plan.now))
