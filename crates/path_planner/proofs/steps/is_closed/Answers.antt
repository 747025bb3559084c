use Rattle.std.proofs.Common.{◌<◌, sym, subst}
use Rattle.std.specs.Prelude.{Option}
use Rattle.fleet_base.specs.declared.geometry.Cell.{Cell}
use Rattle.plan_steps.specs.Steps.{IsClosed}
use Rattle.path_planner.proofs.Back.{IsBack, left_back, back_first, back_on, further_back, left_leads}
use Rattle.path_planner.proofs.Leaving.{is_cell, is_no_cell}
use Rattle.path_planner.proofs.steps.is_closed.Goals as goal

pub returns-then-eq-clause-yes : goal.returns-then-eq-clause-yes
returns-then-eq-clause-yes c = λ _.
    let back = subst (IsBack c.args.fixed.now c.args.tick c.args.from c.args.to) c.in-Some.is c.loop-entering.invariant in
    subst (λ (w : Cell). IsClosed c.args.fixed.now c.args.tick w c.args.to) (is_cell c.cell_of-left.result c.args.from c.eq.result c.eq.ensures c.if-eq.true)
    (left_leads c.args.fixed.now c.args.tick c.requires.apart c.in-Some.robot c.args.from c.args.to c.cell_of-left.result back c.cell_of-left.ensures)

pub loop-entering-preserved : goal.loop-entering-preserved
loop-entering-preserved c =
    let back = subst (IsBack c.args.fixed.now c.args.tick c.args.from c.args.to) c.in-Some.is c.loop-entering.invariant in
    back_on c.args.fixed.now c.args.tick c.requires.apart c.args.from c.args.to c.cell_of-left.result c.in-Some.robot c.robot_in-entering-in-Some.result back c.cell_of-left.ensures
    (is_no_cell c.cell_of-left.result c.args.from c.eq.result c.eq.ensures c.if-eq.false) c.robot_in-entering-in-Some.ensures

pub loop-entering-smaller : goal.loop-entering-smaller
loop-entering-smaller c =
    let back = subst (IsBack c.args.fixed.now c.args.tick c.args.from c.args.to) c.in-Some.is c.loop-entering.invariant in
    subst (λ (o : Option _). left_back c.args.fixed.now c.args.tick c.robot_in-entering-in-Some.result < left_back c.args.fixed.now c.args.tick o) (sym c.in-Some.is)
    (further_back c.args.fixed.now c.args.tick c.requires.apart c.args.from c.args.to c.cell_of-left.result c.in-Some.robot c.robot_in-entering-in-Some.result back c.cell_of-left.ensures c.robot_in-entering-in-Some.ensures)

pub loop-entering-init : goal.loop-entering-init
loop-entering-init c = back_first c.args.fixed.now c.args.tick c.requires.apart c.args.from c.args.to c.robot_in-entering.result c.requires.clear c.robot_in-entering.ensures
