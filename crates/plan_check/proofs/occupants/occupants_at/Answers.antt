use Rattle.std.proofs.Common.{suc, ◌≡◌, ◌-◌, ◌<◌, ◌≤◌, length, arith, subst, sym, ◌∙◌, ap, Some, None}
use Rattle.std.specs.BTreeMap.{Updates}
use Rattle.fleet_base.specs.declared.geometry.Cell.{Cell}
use Rattle.fleet_base.specs.Plan.{cell_at}
use Rattle.fleet_base.specs.Grid.{cell_order}
use Rattle.plan_check.specs.Occupants.{occupant}
use Rattle.plan_check.proofs.Shares.{no_occupants, no_shares, more_occupants, shares_more, shares_no_more}
use Rattle.plan_check.proofs.occupants.occupants_at.Goals as goal

pub loop-robot-init : goal.loop-robot-init
loop-robot-init c =
    let all : length c.args.raw.now ≤ c.robots-robot.result = omega arith in
    record {
      occupants = no_occupants c.args.raw.now c.args.tick c.new-occupants.result c.robots-robot.result c.new-occupants.ensures.empty all;
      share = no_shares c.args.raw.now c.args.tick c.robots-robot.result all;
    }

pub loop-robot-preserved : goal.loop-robot-preserved
loop-robot-preserved c =
    let next : c.loop-robot.robot ≡ suc (c.loop-robot.robot - 1) = omega arith in
    let there : c.loop-robot.robot - 1 < length c.args.raw.now = omega arith in
    let put = subst (λ (w : Cell). Updates cell_order c.loop-robot.occupants c.put.new.occupants w (Some (c.loop-robot.robot - 1))) c.cell_at-at.ensures c.in_ok-other.ensures.put in
    let empty : None ≡ occupant c.loop-robot.occupants (cell_at c.args.raw.now (c.loop-robot.robot - 1) c.args.tick) =
    sym c.in_default.is ∙ (c.in_ok-other.ensures.former ∙ ap (λ (w : Cell). occupant c.loop-robot.occupants w) c.cell_at-at.ensures) in
    record {
      occupants = more_occupants c.args.raw.now c.args.tick c.loop-robot.robot (c.loop-robot.robot - 1) next there c.loop-robot.occupants c.put.new.occupants put c.loop-robot.invariant.occupants;
      share = shares_no_more c.args.raw.now c.args.tick c.loop-robot.robot (c.loop-robot.robot - 1) next there c.loop-robot.occupants c.put.new.occupants put c.loop-robot.invariant.occupants c.loop-robot.share empty c.loop-robot.invariant.share;
    }

pub loop-robot-preserved-in-Some : goal.loop-robot-preserved-in-Some
loop-robot-preserved-in-Some c =
    let next : c.loop-robot.robot ≡ suc (c.loop-robot.robot - 1) = omega arith in
    let there : c.loop-robot.robot - 1 < length c.args.raw.now = omega arith in
    let put = subst (λ (w : Cell). Updates cell_order c.loop-robot.occupants c.put.new.occupants w (Some (c.loop-robot.robot - 1))) c.cell_at-at.ensures c.in_ok-other.ensures.put in
    let here : Some c.in-Some.other ≡ occupant c.loop-robot.occupants (cell_at c.args.raw.now (c.loop-robot.robot - 1) c.args.tick) =
    sym c.in-Some.is ∙ (c.in_ok-other.ensures.former ∙ ap (λ (w : Cell). occupant c.loop-robot.occupants w) c.cell_at-at.ensures) in
    record {
      occupants = more_occupants c.args.raw.now c.args.tick c.loop-robot.robot (c.loop-robot.robot - 1) next there c.loop-robot.occupants c.put.new.occupants put c.loop-robot.invariant.occupants;
      share = shares_more c.args.raw.now c.args.tick c.loop-robot.robot (c.loop-robot.robot - 1) next there c.loop-robot.occupants c.put.new.occupants put c.loop-robot.invariant.occupants c.in-Some.other here;
    }
