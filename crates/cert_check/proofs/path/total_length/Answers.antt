use Rattle.std.proofs.Common.{sym, ◌∙◌, arith}
use Rattle.cert_check.specs.Sides.{order_by}
use Rattle.cert_check.proofs.PathLaws.{no_length, total_more, all_taken, not_all_taken}
use Rattle.cert_check.proofs.path.total_length.Goals as goal

pub returns-in_default-clause-none : goal.returns-in_default-clause-none
returns-in_default-clause-none c =
    no_length c.args.graph.now c.args.fleet.now (order_by c.args.graph.now c.args.fleet.now c.args.sides.now) c.args.paths.now c.loop-robot.place c.loop-robot.robot _ c.loop-robot.total _ c.requires.ascending c.loop-robot.invariant c.pairs_at-after.ensures (sym c.in_default.is ∙ c.length_of.ensures.value) (omega (arith, c.loop-robot-test.true, c.robots-robot-end.ensures.count))

pub loop-robot-preserved : goal.loop-robot-preserved
loop-robot-preserved c =
    total_more c.args.graph.now c.args.fleet.now (order_by c.args.graph.now c.args.fleet.now c.args.sides.now) c.args.paths.now c.loop-robot.place c.loop-robot.robot _ c.loop-robot.total _ c.in-Some.length _ c.requires.ascending c.loop-robot.invariant c.pairs_at-after.ensures (sym c.in-Some.is ∙ c.length_of.ensures.value) c.in-Some.ensures.short (omega arith)

pub returns-then-place-paths-clause-some : goal.returns-then-place-paths-clause-some
returns-then-place-paths-clause-some c =
    all_taken c.args.graph.now c.args.fleet.now (order_by c.args.graph.now c.args.fleet.now c.args.sides.now) c.args.paths.now c.loop-robot.place c.loop-robot.robot c.loop-robot.total c.loop-robot.invariant (omega (arith, c.loop-robot-test.false, c.loop-robot.auto.robot-end, c.robots-robot-end.ensures.count)) c.if-place-paths.true

pub returns-else-place-paths-clause-none : goal.returns-else-place-paths-clause-none
returns-else-place-paths-clause-none c =
    not_all_taken c.args.graph.now c.args.fleet.now (order_by c.args.graph.now c.args.fleet.now c.args.sides.now) c.args.paths.now c.loop-robot.place c.loop-robot.robot c.loop-robot.total c.loop-robot.invariant (omega (arith, c.loop-robot-test.false, c.loop-robot.auto.robot-end, c.robots-robot-end.ensures.count)) c.if-place-paths.false
