use Rattle.std.proofs.Common.{suc, ◌+◌, ◌*◌, ◌<◌, ◌≤◌, refl, sym, ◌∙◌, subst, arith, length, below_more}
use Rattle.fleet_base.specs.declared.geometry.Cell.{Cell}
use Rattle.fleet_base.specs.Grid.{distance}
use Rattle.fleet_gen.specs.Roads.{cell_after, moves_of}
use Rattle.plan_steps.specs.Steps.{IsClear, MayStep}
use Rattle.fleet_gen.proofs.Ways.{listed, clear_here, sound_going, going_sound, one_more}
use Rattle.fleet_gen.proofs.Courses.{near}
use Rattle.fleet_gen.proofs.departures.may_depart.Goals as goal

pub may_step-requires-clause-paths : goal.may_step-requires-clause-paths
may_step-requires-clause-paths c = listed c.args.grid.now c.args.fixed.now c.args.road (62 * length c.args.fixed.now) c.requires.road c.requires.beside

pub may_step-requires-clause-clear : goal.may_step-requires-clause-clear
may_step-requires-clause-clear c =
    let h = clear_here c.args.grid.now c.args.fixed.now c.args.road (62 * length c.args.fixed.now) c.requires.road c.requires.beside c.args.wait c.loop-moved.moved c.loop-moved.invariant in
    subst (λ (x : Cell). IsClear c.args.fixed.now (c.args.wait + c.loop-moved.moved) x) (sym c.cell.ensures) h

pub may_step-requires-clause-near : goal.may_step-requires-clause-near
may_step-requires-clause-near c =
    let n = near c.args.road c.requires.road c.loop-moved.moved in
    let e = c.cell-in-loop-moved.ensures ∙ one_more c.args.road c.loop-moved.moved in
    subst (λ (x : Cell). distance c.cell.result x ≤ 1) (sym e) (subst (λ (x : Cell). distance x (cell_after c.args.road (suc c.loop-moved.moved)) ≤ 1) (sym c.cell.ensures) n)

pub returns-then-not-may_step-clause-no : goal.returns-then-not-may_step-clause-no
returns-then-not-may_step-clause-no c = λ e sound.
    let few : c.loop-moved.moved < moves_of c.args.road = omega arith in
    let go = going_sound c.args.grid.now c.args.fixed.now c.args.road (62 * length c.args.fixed.now) c.requires.road c.requires.beside c.args.wait c.requires.sound c.requires.free sound c.loop-moved.moved few in
    let e = c.cell-in-loop-moved.ensures ∙ one_more c.args.road c.loop-moved.moved in
    c.if-not-may_step.ensures.no refl
    (subst (λ (x : Cell). MayStep c.args.grid.now c.args.fixed.now (c.args.wait + c.loop-moved.moved) c.cell.result x) (sym e)
    (subst (λ (x : Cell). MayStep c.args.grid.now c.args.fixed.now (c.args.wait + c.loop-moved.moved) x (cell_after c.args.road (suc c.loop-moved.moved))) (sym c.cell.ensures) go))

pub loop-moved-preserved : goal.loop-moved-preserved
loop-moved-preserved c =
    let e = c.cell-in-loop-moved.ensures ∙ one_more c.args.road c.loop-moved.moved in
    below_more (λ m. MayStep c.args.grid.now c.args.fixed.now (c.args.wait + m) (cell_after c.args.road m) (cell_after c.args.road (suc m))) c.loop-moved.moved c.loop-moved.invariant
    (subst (λ (x : Cell). MayStep c.args.grid.now c.args.fixed.now (c.args.wait + c.loop-moved.moved) (cell_after c.args.road c.loop-moved.moved) x) e
    (subst (λ (x : Cell). MayStep c.args.grid.now c.args.fixed.now (c.args.wait + c.loop-moved.moved) x c.cell-in-loop-moved.result) c.cell.ensures (c.if-not-may_step.ensures.yes refl)))

pub returns-clause-yes : goal.returns-clause-yes
returns-clause-yes c = λ e.
    sound_going c.args.grid.now c.args.fixed.now c.args.road (62 * length c.args.fixed.now) c.requires.road c.requires.beside c.args.wait c.requires.sound c.requires.free
    (λ n h. c.loop-moved.invariant n (omega (arith, h)))
