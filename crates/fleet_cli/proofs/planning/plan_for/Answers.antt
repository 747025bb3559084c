use Rattle.std.proofs.Common.{ℕ, List, Err, subst}
use Rattle.map_text.specs.declared.scenario.Task.{Task}
use Rattle.path_planner.specs.Tasks.{AreGood}
use Rattle.path_planner.specs.Planning.{IsPlannedInTurn, RefusalIsRight}
use Rattle.fleet_recovery.proofs.Replays.{told_on}
use Rattle.fleet_cli.specs.Papers.{Files, files_of, failed_at}
use Rattle.fleet_cli.specs.Planning.{HasTasks}
use Rattle.fleet_cli.specs.Refusals.{of_planner}
use Rattle.fleet_cli.specs.Runs.{HasFailed}
use Rattle.fleet_cli.proofs.Reasons.{same_paper}
use Rattle.fleet_cli.proofs.Unplanned.{plan_refused}
use Rattle.fleet_cli.proofs.Writable.{planned_writable}
use Rattle.fleet_cli.proofs.planning.plan_for.Goals as goal
use Rattle.fleet_cli.specs.Fetching.{HasTaskReason}

pub path_text-requires-clause-writable : goal.path_text-requires-clause-writable
path_text-requires-clause-writable g c = planned_writable _ _ _ _ _ c.in_ok-grid.ensures.read c.in_ok-plan.ensures.sound c.in_ok-plan.ensures.plan

pub returns-clause-planned : goal.returns-clause-planned
returns-clause-planned g c =
    let files : Files = files_of g.H.Shelf.tells (g.H.Shelf.file c.args.shelf.now) in
    let has : HasTasks files c.args.map_name.now c.args.scen_name.now c.in_ok-grid.grid c.in_ok-all.all = record {
      on = record { bytes = c.in_ok-map.map.items; paper = c.in_ok-map.ensures.read; text = rw c.deref.ensures.value at c.in_ok-grid.ensures.read };
      bytes = c.in_ok-scen.scen.items;
      paper = same_paper files (g.H.Shelf.file c.fetch.new.shelf) c.args.scen_name.now c.in_ok-scen.scen.items c.fetch.ensures.files c.in_ok-scen.ensures.read;
      text = rw c.deref-2.ensures.value at c.in_ok-all.ensures.read;
    } in
    record {
      grid = c.in_ok-grid.grid;
      tasks = c.in_ok-all.all;
      has = has;
      good = subst (λ (tasks : List Task). AreGood c.in_ok-grid.grid tasks) c.in_ok-tasks.ensures c.in_ok-plan.ensures.good;
      plan = c.in_ok-plan.plan;
      planned = subst (λ (tasks : List Task). IsPlannedInTurn c.in_ok-grid.grid c.args.horizon tasks c.in_ok-plan.plan) c.in_ok-tasks.ensures c.in_ok-plan.ensures.plan;
      text_is = c.in_ok-text.ensures;
    }

pub returns-in_err-plan-clause-refused : goal.returns-in_err-plan-clause-refused
returns-in_err-plan-clause-refused g c =
    let files : Files = files_of g.H.Shelf.tells (g.H.Shelf.file c.args.shelf.now) in
    let has : HasTasks files c.args.map_name.now c.args.scen_name.now c.in_ok-grid.grid c.in_ok-all.all = record {
      on = record { bytes = c.in_ok-map.map.items; paper = c.in_ok-map.ensures.read; text = rw c.deref.ensures.value at c.in_ok-grid.ensures.read };
      bytes = c.in_ok-scen.scen.items;
      paper = same_paper files (g.H.Shelf.file c.fetch.new.shelf) c.args.scen_name.now c.in_ok-scen.scen.items c.fetch.ensures.files c.in_ok-scen.ensures.read;
      text = rw c.deref-2.ensures.value at c.in_ok-all.ensures.read;
    } in
    let failed : List ℕ → Type 0 = failed_at g.H.Shelf.tells (g.H.Shelf.asked c.fetch-2.new.shelf) (HasFailed (g.H.Shelf.counts c.args.shelf.now) (g.H.Shelf.counts c.fetch-2.new.shelf)) in
    told_on _ c.from_residual-in_err-plan.result (of_planner c.in_err-plan.field-0.0) (HasTaskReason files failed c.args.map_name.now c.args.scen_name.now c.args.robots c.args.horizon) c.from_residual-in_err-plan.ensures.1
    (plan_refused files failed c.args.map_name.now c.args.scen_name.now c.args.robots c.args.horizon c.in_ok-grid.grid c.in_ok-all.all c.in_err-plan.field-0.0 has
    (subst (λ (tasks : List Task). RefusalIsRight c.in_ok-grid.grid c.args.horizon tasks (Err c.in_err-plan.field-0.0)) c.in_ok-tasks.ensures c.in_err-plan.ensures.refused))
