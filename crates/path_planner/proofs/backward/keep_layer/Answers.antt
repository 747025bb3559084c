use Rattle.std.proofs.Common.{◌+◌, ◌∙◌, refl, sym, subst, arith}
use Rattle.path_planner.proofs.Spread.{stood_at}
use Rattle.path_planner.proofs.Retrace.{KeepsOf, left_out, one_kept, all_kept}
use Rattle.path_planner.proofs.backward.keep_layer.Goals as goal
use Rattle.path_planner.proofs.backward.keep_layer.Goals.{then-leads_into+in_ok-push, else-leads_into}

pub leads_into-requires-clause-clear : goal.leads_into-requires-clause-clear
leads_into-requires-clause-clear c = (stood_at c.args.grid.now c.args.fixed.now c.args.tick c.args.layer.now c.requires.stood c.loop-from.from-index _ (omega arith) refl).1

pub loop-from-preserved : goal.loop-from-preserved
loop-from-preserved c =
    let index = c.loop-from.from-index in
    elim c.if-leads_into.branch [
      | then-leads_into+in_ok-push w ↦
          one_kept c.args.grid.now c.args.fixed.now c.args.tick c.args.layer.now c.args.next.now index c.loop-from.kept c.if-leads_into.kept _ c.loop-from.invariant (omega arith) refl
          (c.leads_into.ensures.yes w.if-leads_into.true) (w.kept-is ∙ w.in_ok-push.ensures.ok)
      | else-leads_into w ↦
          subst (KeepsOf c.args.grid.now c.args.fixed.now c.args.tick c.args.layer.now c.args.next.now (index + 1)) (sym w.kept-is)
          (left_out c.args.grid.now c.args.fixed.now c.args.tick c.args.layer.now c.args.next.now index c.loop-from.kept _ c.loop-from.invariant refl (c.leads_into.ensures.no w.if-leads_into.false))
    ]

pub returns-clause-kept : goal.returns-clause-kept
returns-clause-kept c = all_kept c.args.grid.now c.args.fixed.now c.args.tick c.args.layer.now c.args.next.now c.loop-from.from-index c.loop-from.kept c.loop-from.invariant (omega arith)
