use Rattle.std.proofs.Common.{ℕ, ◌≡◌, ◌+◌, ◌<◌, ◌≤◌, List, [], length, take, arith, sym, ap, ◌∙◌}
use Rattle.std.specs.Prelude.{sum_by}
use Rattle.std.proofs.lemmas.List.Sums.{sum_by_more}
use Rattle.fleet_base.specs.declared.geometry.Cell.{Cell}
use Rattle.fleet_base.specs.declared.geometry.PlannedVisit.{PlannedVisit}
use Rattle.fleet_base.specs.Lists.{row_of}
use Rattle.fleet_base.specs.Plan.{visits_of, visits_of_path}
use Rattle.fleet_base.proofs.GraphLaws.{get_or-map, length-map}
use Rattle.plan_check.proofs.limits.visits.Goals as goal

-- the visits of one robot more
more_visits : (plan : List (List Cell)) (i : ℕ) → i < length plan → sum_by length (take (i + 1) (visits_of plan)) ≡ sum_by length (take i (visits_of plan)) + length (visits_of_path (row_of plan i))
more_visits plan i h =
    let within : i < length (visits_of plan) = omega (arith, length-map visits_of_path plan) in
    sum_by_more (λ (route : List PlannedVisit). length route) (visits_of plan) i [] within
    ∙ ap (λ (route : List PlannedVisit). sum_by length (take i (visits_of plan)) + length route) (get_or-map visits_of_path plan i [] [] h)

pub loop-robot-preserved : goal.loop-robot-preserved
loop-robot-preserved c =
    let there : c.loop-robot.robot < length c.args.raw.now = omega arith in
    let count = c.visits_of_path-visits.ensures.count ∙ ap (λ (path : List Cell). length (visits_of_path path)) c.cells.ensures in
    let short : length (row_of c.args.raw.now c.loop-robot.robot) ≤ 4097 = c.requires.ticks c.loop-robot.robot [] there in
    let size : length c.cells.result.now ≡ length (row_of c.args.raw.now c.loop-robot.robot) = ap (λ (path : List Cell). length path) c.cells.ensures in
    record {
      few = omega arith;
      sum = ap (λ (n : ℕ). n + c.visits_of_path-visits.result) c.loop-robot.invariant.sum
          ∙ (ap (λ (n : ℕ). sum_by length (take c.loop-robot.robot (visits_of c.args.raw.now)) + n) count
          ∙ sym (more_visits c.args.raw.now c.loop-robot.robot there));
    }
