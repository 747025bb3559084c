use Rattle.std.proofs.Common.{◌≡◌, ◌++◌, [], ◌∷◌, take, get_or, sym, ◌∙◌, ap}
use Rattle.std.proofs.lemmas.List.{append_assoc}
use Rattle.plan_text.specs.PlanText.{cell_text, path_text}
use Rattle.plan_text.proofs.Runs.{opened, path_text_more, opened_behind, opened_first}
use Rattle.plan_text.proofs.spelling.push_cells.Goals as goal
use Rattle.plan_text.proofs.spelling.push_cells.Goals.{then-n-gt0+in_ok-push_bytes, else-n-gt0}

pub loop-n-preserved : goal.loop-n-preserved
loop-n-preserved c =
    let path = c.args.path.now in
    let n = c.loop-n.n in
    let front : c.if-n-gt0.out ≡ c.args.out.now ++ opened (take n path) = elim c.if-n-gt0.branch [
      | then-n-gt0+in_ok-push_bytes w ↦ w.out-is ∙ w.in_ok-push_bytes.ensures.ok ∙ ap (λ xs. xs ++ 45 ∷ 62 ∷ []) c.loop-n.invariant ∙ append_assoc c.args.out.now (path_text (take n path)) (45 ∷ 62 ∷ []) ∙ ap (λ xs. c.args.out.now ++ xs) (opened_behind path n w.if-n-gt0.true c.loop-n-test.true)
      | else-n-gt0 w ↦ w.out-is ∙ c.loop-n.invariant ∙ ap (λ xs. c.args.out.now ++ xs) (opened_first path n w.if-n-gt0.false)
    ] in
    let cell = get_or path n (record { row = 0; col = 0 }) in
    c.in_ok-push_cell.ensures ∙ ap (λ xs. xs ++ cell_text cell) front ∙ append_assoc c.args.out.now (opened (take n path)) (cell_text cell) ∙ ap (λ xs. c.args.out.now ++ xs) (sym (path_text_more path n (record { row = 0; col = 0 }) c.loop-n-test.true))
