use Rattle.std.proofs.Common.{ℕ, ◌+◌, ◌≤◌, List, length, sym, ap, ◌∙◌, subst, arith}
use Rattle.fleet_base.specs.declared.geometry.Visit.{Visit}
use Rattle.fleet_base.specs.Order.{last_in}
use Rattle.release_rule.specs.Releasing.{ReleaseList}
use Rattle.release_rule.proofs.Joined.{IsFoundBelow, below_none, below_more, room_for, found_is_released}
use Rattle.release_rule.proofs.rule.kept_order_releases.Goals as goal

pub loop-robot-init : goal.loop-robot-init
loop-robot-init c = (
  subst (λ (vs : List Visit). IsFoundBelow c.args.graph.now c.args.fleet.now 0 vs) (sym (ap (λ (o : ReleaseList). o.list) c.clear.ensures)) (below_none c.args.graph.now c.args.fleet.now),
  ap (λ (o : ReleaseList). o.room) c.clear.ensures,
)

pub release_robot-requires-clause-room : goal.release_robot-requires-clause-room
release_robot-requires-clause-room c =
    let there = room_for c.args.graph.now c.args.fleet.now c.loop-robot.robot c.loop-robot.out.list c.loop-robot.invariant.0 (omega (arith, c.loop-robot-test.true, c.robots-robot-end.ensures.count)) in
    let room : length c.loop-robot.out.list + (last_in c.args.graph.now c.loop-robot.robot + 1) ≤ c.loop-robot.out.room = omega (arith, there, c.loop-robot.invariant.1, c.requires.out) in
    room

pub loop-robot-preserved : goal.loop-robot-preserved
loop-robot-preserved c = (
  below_more c.args.graph.now c.args.fleet.now c.loop-robot.robot c.loop-robot.out.list c.release_robot.new.out.list c.loop-robot.invariant.0
      (omega (arith, c.loop-robot-test.true, c.robots-robot-end.ensures.count)) c.release_robot.ensures.list,
  c.release_robot.ensures.room ∙ c.loop-robot.invariant.1,
)

pub returns-clause-list : goal.returns-clause-list
returns-clause-list c =
    found_is_released c.args.graph.now c.args.fleet.now c.loop-robot.out.list c.requires.state
    (subst (λ (n : ℕ). IsFoundBelow c.args.graph.now c.args.fleet.now n c.loop-robot.out.list) (omega (arith, c.loop-robot-test.false, c.loop-robot.auto.robot-end, c.robots-robot-end.ensures.count)) c.loop-robot.invariant.0)
