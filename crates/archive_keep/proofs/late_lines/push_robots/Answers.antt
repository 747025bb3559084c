use Rattle.std.proofs.Common.{◌≡◌, ◌++◌, ◌∙◌, false, ap, sym, subst, flat_map, take, arith, rules}
use Rattle.std.proofs.lemmas.Result.{err_from_is_err_and}
use Rattle.fleet_base.specs.Bytes.{AppendsFront}
use Rattle.archive_keep.specs.Report.{part_of}
use Rattle.archive_keep.proofs.LateText.{more_robots, robots_left, whole_robots, longer_still}
use Rattle.archive_keep.proofs.late_lines.push_robots.Goals as goal

pub loop-robot-preserved : goal.loop-robot-preserved
loop-robot-preserved g c =
    let inv = c.loop-robot.invariant in
    let next = c.in_ok-push_ends_of.ensures in
    record {
      robots = λ tells. more_robots (g.K.Keeper.table c.args.keeper.now) c.loop-robot.robot c.args.out.now c.loop-robot.out c.push_ends_of.new.out c.loop-robot-test.true (inv.robots tells) (next.part tells ∙ ap (λ rows. c.loop-robot.out ++ part_of rows c.loop-robot.robot) (inv.rows tells));
      text = longer_still c.args.out.now c.loop-robot.out c.push_ends_of.new.out inv.text next.text;
      rows = λ tells. next.rows tells ∙ inv.rows tells;
      attached = next.attached ∙ inv.attached;
      early = λ e. let failed = next.early (inv.attached ∙ e) in absurd cc;
      faults = omega (arith, inv.faults, next.cause.later);
    }

pub returns-clause-robots : goal.returns-clause-robots
returns-clause-robots g c = λ tells. whole_robots (g.K.Keeper.table c.args.keeper.now) c.loop-robot.robot c.args.out.now c.loop-robot.out c.loop-robot-test.false (c.loop-robot.invariant.robots tells)

pub returns-clause-early : goal.returns-clause-early
returns-clause-early g c = λ e. absurd (omega (arith, c.loop-robot.invariant.early e, c.loop-robot-test.false))

pub returns-in_err-push_ends_of-clause-front : goal.returns-in_err-push_ends_of-clause-front
returns-in_err-push_ends_of-clause-front g c = λ tells.
    let p = err_from_is_err_and c.from_residual.result c.from_residual.ensures.1 in
    let rows = g.K.Keeper.table c.args.keeper.now in
    let inv = c.loop-robot.invariant in
    rw p.1
    (robots_left rows c.loop-robot.robot c.args.out.now c.loop-robot.out c.push_ends_of.new.out c.loop-robot-test.true (inv.robots tells)
    (subst (λ t. AppendsFront c.loop-robot.out c.push_ends_of.new.out (part_of t c.loop-robot.robot)) (inv.rows tells) (c.in_err-push_ends_of.ensures.front tells)))
