use Rattle.std.proofs.Common.{length, arith, ap, ◌∙◌, ◌≡◌, ◌<◌}
use Rattle.std.proofs.lemmas.List.{get_or_read}
use Rattle.fleet_base.specs.Order.{Graph, last_in}
use Rattle.plan_graph.proofs.Steps.{at_work_there, robot_listed}
use Rattle.plan_graph.proofs.work.Work.list_robot.Goals as goal

pub step-requires-clause-there : goal.step-requires-clause-there
step-requires-clause-there c =
    let i = c.loop-self.invariant in
    let inside : c.args.robot < length c.loop-self.self.listed.items = omega (arith, i.there, i.work.room.listed, c.loop-self.self.listed.ok.0) in
    let at = get_or_read c.loop-self.self.listed.items c.args.robot c.index.result.now inside c.index.ensures 0 in
    let last : c.last.result ≡ last_in c.args.view.now.graph c.args.robot = c.last.ensures ∙ ap (λ (g : Graph). last_in g c.args.robot) c.graph.ensures in
    at_work_there c.args.view.now c.args.self.now c.loop-self.self c.args.robot c.loop-self.at_work i.work i.begun i.there (omega (arith, at, last, c.loop-self-test.true))

pub returns : goal.returns
returns c =
    let i = c.loop-self.invariant in
    let inside : c.args.robot < length c.loop-self.self.listed.items = omega (arith, i.there, i.work.room.listed, c.loop-self.self.listed.ok.0) in
    let at = get_or_read c.loop-self.self.listed.items c.args.robot c.index.result.now inside c.index.ensures 0 in
    let last : c.last.result ≡ last_in c.args.view.now.graph c.args.robot = c.last.ensures ∙ ap (λ (g : Graph). last_in g c.args.robot) c.graph.ensures in
    robot_listed c.args.view.now c.args.self.now c.loop-self.self c.args.robot c.loop-self.at_work i.work i.begun i.more (omega (arith, at, last, c.loop-self-test.false))
