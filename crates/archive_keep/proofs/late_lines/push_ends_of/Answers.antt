use Rattle.std.proofs.Common.{◌++◌, ◌∙◌, ap, subst}
use Rattle.std.proofs.lemmas.Result.{err_from_is_err_and}
use Rattle.fleet_base.specs.Bytes.{AppendsFront}
use Rattle.archive_keep.proofs.LateText.{part_is, longer, front_longer}
use Rattle.archive_keep.specs.Report.{robot_text}
use Rattle.archive_keep.proofs.late_lines.push_ends_of.Goals as goal

pub returns-clause-part : goal.returns-clause-part
returns-clause-part g c = λ tells.
    let out = c.args.out.now in
    c.in_ok-push_robot.ensures.ok ∙ ap (λ l. out ++ l) (part_is (g.K.Keeper.table c.args.keeper.now) c.args.robot c.in_ok-ends.ends (c.in_ok-ends.ensures.ends tells))

pub returns-clause-text : goal.returns-clause-text
returns-clause-text g c = longer c.args.out.now c.push_robot.new.out (robot_text c.args.robot c.in_ok-ends.ends) c.in_ok-push_robot.ensures.ok

pub returns-in_err-push_robot-clause-front : goal.returns-in_err-push_robot-clause-front
returns-in_err-push_robot-clause-front g c = λ tells.
    let p = err_from_is_err_and c.from_residual-in_err-push_robot.result c.from_residual-in_err-push_robot.ensures.1 in
    rw p.1 (subst (AppendsFront c.args.out.now c.push_robot.new.out) (part_is (g.K.Keeper.table c.args.keeper.now) c.args.robot c.in_ok-ends.ends (c.in_ok-ends.ensures.ends tells)) c.in_err-push_robot.ensures.err)

pub returns-in_err-push_robot-clause-text : goal.returns-in_err-push_robot-clause-text
returns-in_err-push_robot-clause-text g c = front_longer c.args.out.now c.push_robot.new.out (robot_text c.args.robot c.in_ok-ends.ends) c.in_err-push_robot.ensures.err
