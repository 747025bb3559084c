use Rattle.std.proofs.Common.{◌+◌, refl, sym, subst, arith}
use Rattle.path_planner.proofs.Retrace.{IsLeastOf, least_left_out, least_taken, some_least, least_into}
use Rattle.path_planner.proofs.backward.least_step.Goals as goal
use Rattle.path_planner.proofs.backward.least_step.Goals.{then-is_in+then-may_step, else-is_in, else-is_in-via-then-is_in+else-may_step, else-is_in-via-else-is_in}

pub loop-to-preserved : goal.loop-to-preserved
loop-to-preserved c =
    let near = c.around-to-items.result in
    let index = c.loop-to.to-index in
    elim c.if-is_in.branch [
      | then-is_in+then-may_step w ↦
          subst (IsLeastOf c.args.grid.now c.args.fixed.now c.args.tick c.args.from c.args.next.now near (index + 1)) (sym w.least-is)
          (least_taken c.args.grid.now c.args.fixed.now c.args.tick c.args.from c.args.next.now near index c.loop-to.least _ w.lesser.result c.loop-to.invariant refl
          (c.is_in.ensures.yes w.if-is_in.true) (w.may_step.ensures.yes w.if-may_step.true) w.lesser.ensures)
      | else-is_in w ↦
          subst (IsLeastOf c.args.grid.now c.args.fixed.now c.args.tick c.args.from c.args.next.now near (index + 1)) (sym w.least-is)
          (least_left_out c.args.grid.now c.args.fixed.now c.args.tick c.args.from c.args.next.now near index c.loop-to.least c.loop-to.invariant
          (elim w.else-is_in.branch [
            | else-is_in-via-then-is_in+else-may_step u ↦ λ there step. u.may_step.ensures.no u.if-may_step.false step
            | else-is_in-via-else-is_in u ↦ λ there step. c.is_in.ensures.no u.if-is_in.false there
          ]))
    ]

pub unwrap-requires : goal.unwrap-requires
unwrap-requires c =
    some_least c.args.grid.now c.args.fixed.now c.args.tick c.args.from c.args.next.now c.around-to-items.result c.loop-to.to-index c.loop-to.least c.loop-to.invariant
    (omega (arith, c.loop-to-test.false, c.around-to-items.ensures.count)) c.around-to-items.ensures.all c.requires.leads

pub returns : goal.returns
returns c =
    least_into c.args.grid.now c.args.fixed.now c.args.tick c.args.from c.args.next.now c.around-to-items.result c.loop-to.to-index c.loop-to.least c.unwrap.result c.loop-to.invariant c.unwrap.ensures
    (omega (arith, c.loop-to-test.false, c.around-to-items.ensures.count)) c.around-to-items.ensures.all
