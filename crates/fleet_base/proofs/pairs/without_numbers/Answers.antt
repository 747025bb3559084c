use Rattle.std.proofs.Common.{◌≡◌, ◌+◌, ◌<◌, ◌∙◌, [], List, ℕ, ap, arith, length}
use Rattle.std.proofs.lemmas.Grind.{common_steps}
use Rattle.std.specs.Prelude.{replicate}
use Rattle.fleet_base.specs.declared.order.PairId.{PairId}
use Rattle.fleet_base.specs.Lists.{row_of}
use Rattle.fleet_base.proofs.PairNumbers.{none_more, visits_of_robot}
use Rattle.fleet_base.proofs.pairs.without_numbers.Goals as goal

pub loop-robot-preserved : goal.loop-robot-preserved
loop-robot-preserved c =
    let there : c.loop-robot.robot < length c.args.plan.now = omega arith in
    let row : c.in_ok-row.row ≡ replicate {A = List PairId} (length (row_of c.args.plan.now c.loop-robot.robot)) [] =
    c.in_ok-row.ensures ∙ ap (λ (n : ℕ). replicate {A = List PairId} n []) (ap (λ (n : ℕ). n + 1) c.last.ensures ∙ visits_of_robot c.args.plan.now c.robots-robot-end.ensures.sound c.loop-robot.robot there) in
    let more = none_more c.args.plan.now c.loop-robot.robot there in
    grind (arith, common_steps, more, row, c.loop-robot.invariant, c.push.ensures.items)
