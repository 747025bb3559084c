use Rattle.std.proofs.Common.{◌+◌, ◌++◌, ◌∷◌, [], List, length, get_or, refl, sym, ◌∙◌, ap, subst, arith}
use Rattle.std.specs.Prelude.{Contains}
use Rattle.fleet_base.specs.declared.geometry.Cell.{Cell}
use Rattle.fleet_base.specs.Plan.{no_cell}
use Rattle.path_planner.specs.Tables.{Covers, TellsPlaces}
use Rattle.path_planner.proofs.Spread.{StepsOf, no_steps, step_left_out, step_added, all_steps}
use Rattle.path_planner.proofs.TableLaws.{covers_same, place_added}
use Rattle.path_planner.proofs.forward.step_out.Goals as goal
use Rattle.path_planner.proofs.forward.step_out.Goals.{then-is_in_reach+then-not-is_listed+then-may_step+in_ok-push, else-is_in_reach, else-is_in_reach-via-then-is_in_reach+then-not-is_listed+else-may_step, else-is_in_reach-via-then-is_in_reach+else-not-is_listed, else-is_in_reach-via-else-is_in_reach}

pub loop-to-init : goal.loop-to-init
loop-to-init c = record {
  steps = no_steps c.args.grid.now c.args.fixed.now c.args.tick c.args.from c.args.aim _ c.args.next.now;
  covers = c.requires.covers;
  places = c.requires.places;
}

pub is_listed-requires : goal.is_listed-requires
is_listed-requires c = subst (λ (xs : List Cell). TellsPlaces xs c.loop-to.places) (sym c.as_slice.ensures) c.loop-to.invariant.places

pub loop-to-preserved : goal.loop-to-preserved
loop-to-preserved c =
    let so = c.loop-to.invariant in
    let near = c.around-to-items.result in
    let index = c.loop-to.to-index in
    let to = get_or near index no_cell in
    elim c.if-is_in_reach.branch [
      | then-is_in_reach+then-not-is_listed+then-may_step+in_ok-push w ↦ record {
        steps = subst (StepsOf c.args.grid.now c.args.fixed.now c.args.tick c.args.from c.args.aim near (index + 1) c.args.next.now) (sym (w.next-is ∙ w.in_ok-push.ensures.ok))
            (step_added c.args.grid.now c.args.fixed.now c.args.tick c.args.from c.args.aim near index c.args.next.now c.loop-to.next to so.steps (w.may_step.ensures.yes w.if-may_step.true) refl);
        covers = subst (Covers c.args.grid.now) (sym w.places-is) (covers_same c.args.grid.now c.loop-to.places w.put.new.table so.covers w.put.ensures.sides);
        places = subst (λ (xs : List Cell). TellsPlaces xs c.if-is_in_reach.places) (sym (w.next-is ∙ w.in_ok-push.ensures.ok))
            (subst (TellsPlaces (c.loop-to.next ++ to ∷ [])) (sym w.places-is)
            (place_added c.loop-to.next c.loop-to.places w.put.new.table to so.places (w.put.ensures.here ∙ ap length w.as_slice-then-may_step.ensures) w.put.ensures.others));
      }
      | else-is_in_reach w ↦ record {
        steps = subst (StepsOf c.args.grid.now c.args.fixed.now c.args.tick c.args.from c.args.aim near (index + 1) c.args.next.now) (sym w.next-is)
            (step_left_out c.args.grid.now c.args.fixed.now c.args.tick c.args.from c.args.aim near index c.args.next.now c.loop-to.next so.steps
            (elim w.else-is_in_reach.branch [
              | else-is_in_reach-via-then-is_in_reach+then-not-is_listed+else-may_step u ↦ λ step reach. absurd (u.may_step.ensures.no u.if-may_step.false step)
              | else-is_in_reach-via-then-is_in_reach+else-not-is_listed u ↦ λ step reach. subst (λ (xs : List Cell). Contains xs to) u.as_slice.ensures (u.is_listed.ensures.yes u.if-not-is_listed.false)
              | else-is_in_reach-via-else-is_in_reach u ↦ λ step reach. absurd (c.is_in_reach.ensures.no u.if-is_in_reach.false reach)
            ]));
        covers = subst (Covers c.args.grid.now) (sym w.places-is) so.covers;
        places = subst (λ (xs : List Cell). TellsPlaces xs c.if-is_in_reach.places) (sym w.next-is) (subst (TellsPlaces c.loop-to.next) (sym w.places-is) so.places);
      }
    ]

pub returns-clause-steps : goal.returns-clause-steps
returns-clause-steps c = all_steps c.args.grid.now c.args.fixed.now c.args.tick c.args.from c.args.aim c.around-to-items.result c.loop-to.to-index c.args.next.now c.loop-to.next c.loop-to.invariant.steps
    (omega (arith, c.loop-to-test.false, c.around-to-items.ensures.count)) c.around-to-items.ensures.all

pub returns-in_err-push-clause-covers : goal.returns-in_err-push-clause-covers
returns-in_err-push-clause-covers c = covers_same c.args.grid.now c.loop-to.places c.put.new.table c.loop-to.invariant.covers c.put.ensures.sides
