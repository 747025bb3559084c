use Rattle.std.proofs.Common.{◌≡◌, ◌∷◌, ◌++◌, ◌∙◌, [], ap, subst, codes}
use Rattle.std.proofs.lemmas.Result.{err_from_is_err_and}
use Rattle.fleet_base.specs.Bytes.{AppendsFront}
use Rattle.archive_keep.specs.Rows.{run_count}
use Rattle.archive_keep.specs.Report.{line_of}
use Rattle.archive_keep.proofs.LateText.{report_left, last_left, whole_report, longer, longer_still}
use Rattle.archive_keep.proofs.late_lines.lateness.Goals as goal

pub returns-clause-report : goal.returns-clause-report
returns-clause-report g c = λ tells.
    let rows = g.K.Keeper.table c.args.keeper.now in
    let mid = c.push_robots.new.out in
    let count = c.in_ok-runs.ensures.count tells ∙ ap run_count (c.in_ok-push_robots.ensures.rows tells) in
    whole_report rows c.args.out.now mid c.push_line.new.out (c.in_ok-push_robots.ensures.robots tells) (c.in_ok-push_line.ensures.ok ∙ ap (λ n. mid ++ line_of (codes "runs") (n ∷ [])) count)

pub returns-clause-text : goal.returns-clause-text
returns-clause-text g c =
    let mid = c.push_robots.new.out in
    longer_still c.args.out.now mid c.push_line.new.out c.in_ok-push_robots.ensures.text (longer mid c.push_line.new.out (line_of (codes "runs") (c.in_ok-runs.runs ∷ [])) c.in_ok-push_line.ensures.ok)

pub returns-in_err-push_robots-clause-front : goal.returns-in_err-push_robots-clause-front
returns-in_err-push_robots-clause-front g c = λ tells.
    let p = err_from_is_err_and c.from_residual.result c.from_residual.ensures.1 in
    rw p.1 (report_left (g.K.Keeper.table c.args.keeper.now) c.args.out.now c.push_robots.new.out (c.in_err-push_robots.ensures.front tells))

pub returns-in_err-push_line-clause-front : goal.returns-in_err-push_line-clause-front
returns-in_err-push_line-clause-front g c = λ tells.
    let p = err_from_is_err_and c.from_residual-in_err-push_line.result c.from_residual-in_err-push_line.ensures.1 in
    let rows = g.K.Keeper.table c.args.keeper.now in
    let mid = c.push_robots.new.out in
    let count = c.in_ok-runs.ensures.count tells ∙ ap run_count (c.in_ok-push_robots.ensures.rows tells) in
    rw p.1 (last_left rows c.args.out.now mid c.push_line.new.out (c.in_ok-push_robots.ensures.robots tells) (subst (λ n. AppendsFront mid c.push_line.new.out (line_of (codes "runs") (n ∷ []))) count c.in_err-push_line.ensures.err))
