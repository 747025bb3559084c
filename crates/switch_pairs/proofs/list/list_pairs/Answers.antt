use Rattle.std.proofs.Common.{◌≡◌, ◌∙◌, ap, sym, arith, length}
use Rattle.std.specs.Prelude.{flat_map}
use Rattle.std.proofs.lemmas.Grind.{common_steps}
use Rattle.fleet_base.specs.Lists.{range}
use Rattle.switch_pairs.specs.Found.{pairs_of_lower}
use Rattle.switch_pairs.proofs.Counting.{pairs_are, one_robot_more}
use Rattle.switch_pairs.proofs.list.list_pairs.Goals as goal

pub loop-robot-preserved : goal.loop-robot-preserved
loop-robot-preserved c =
    let more = one_robot_more c.args.plan.now c.loop-robot.robot in
    grind (arith, common_steps, more, c.loop-robot.invariant, c.in_ok-found.ensures, c.deref.ensures.value, c.extend_from_slice.ensures.items)

pub returns : goal.returns
returns c =
    let all : c.loop-robot.robot ≡ length c.args.plan.now = omega arith in
    c.loop-robot.invariant ∙ ap (λ n. flat_map (pairs_of_lower c.args.plan.now) (range 0 n)) all ∙ sym (pairs_are c.args.plan.now)
