use Rattle.std.proofs.Common.{◌≡◌, ◌≢◌, ℕ, List, [], length, eqb, false, sym, ap, ◌∙◌, subst, arith, ◌∷◌, length-append}
use Rattle.std.proofs.lemmas.Bool.{false≢true}
use Rattle.std.proofs.lemmas.Result.{err_from_is_err_and}
use Rattle.fleet_base.specs.Bytes.{file_lines}
use Rattle.map_text.specs.TaskLines.{TakesTasks}
use Rattle.map_text.proofs.TaskPlaces.{one_more_task, wrong_line}
use Rattle.map_text.proofs.tasks.read_tasks.Goals as goal

-- what the test says
not_empty : (line : List ℕ) → false ≡ eqb (length line) 0 → line ≢ []
not_empty line e f = false≢true (e ∙ ap (λ text. eqb (length text) 0) f)

pub returns-in_err-read_task-clause-fault : goal.returns-in_err-read_task-clause-fault
returns-in_err-read_task-clause-fault c =
    let p = err_from_is_err_and c.from_residual.result c.from_residual.ensures.1 in
    wrong_line c.in-Some.line.now _ c.in_err-read_task.field-0.0 c.read_task.result c.from_residual.result c.in_err-read_task.was (cc) c.loop-line.invariant.taken c.in-Some.ensures.some
    (not_empty _ c.if-is_empty.ensures) (omega (arith, c.loop-line.invariant.counted)) c.read_task.ensures.err

pub loop-line-preserved : goal.loop-line-preserved
loop-line-preserved c =
    let pushed = c.in_ok-push.ensures.ok in
    record {
      taken = subst (TakesTasks (file_lines c.args.bytes.now) (file_lines c.in-Some.after.now)) (sym pushed) (one_more_task c.in-Some.line.now _ c.loop-line.invariant.taken c.in-Some.ensures.some c.in_ok-read_task.ensures.ok);
      counted = omega (arith, c.loop-line.invariant.counted, ap length pushed, length-append c.loop-line.tasks (c.in_ok-read_task.field-0 ∷ []));
    }
