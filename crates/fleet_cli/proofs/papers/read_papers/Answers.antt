use Rattle.std.proofs.Common.{ℕ, List, refl, ap, Err}
use Rattle.fleet_recovery.proofs.Replays.{told_on}
use Rattle.fleet_cli.specs.Papers.{Files, files_of, failed_at, HasPlan}
use Rattle.fleet_cli.specs.Runs.{HasFailed}
use Rattle.fleet_cli.specs.Refusals.{of_check}
use Rattle.fleet_cli.proofs.Reasons.{same_paper, check_reason}
use Rattle.fleet_cli.proofs.papers.read_papers.Goals as goal
use Rattle.fleet_cli.specs.Fetching.{HasReason}

pub check-requires-clause-robots : goal.check-requires-clause-robots
check-requires-clause-robots g c = c.in_ok-raw.ensures.robots.robots

pub check-requires-clause-paths : goal.check-requires-clause-paths
check-requires-clause-paths g c = c.in_ok-raw.ensures.robots.cells

pub returns-clause-sound : goal.returns-clause-sound
returns-clause-sound g c =
    let files : Files = files_of g.H.Shelf.tells (g.H.Shelf.file c.args.shelf.now) in
    record {
      has = record {
        grid = c.in_ok-grid.grid;
        plan = c.in_ok-raw.raw;
        papers = record {
          on = record { bytes = c.in_ok-map.map.items; paper = c.in_ok-map.ensures.read; text = rw c.deref.ensures.value at c.in_ok-grid.ensures.read };
          bytes = c.in_ok-text.text.items;
          paper = same_paper files (g.H.Shelf.file c.fetch.new.shelf) c.args.plan_name.now c.in_ok-text.text.items c.fetch.ensures.files c.in_ok-text.ensures.read;
          text = rw c.deref-2.ensures.value at c.in_ok-raw.ensures.read;
        };
        accepted = c.in_ok-plan.ensures.accepted;
        visits = c.in_ok-plan.ensures.visits;
      };
      few = c.in_ok-pairs.ensures.few;
      map_is = refl;
      plan_is = refl;
    }

pub returns-in_err-plan-clause-refused : goal.returns-in_err-plan-clause-refused
returns-in_err-plan-clause-refused g c =
    let files : Files = files_of g.H.Shelf.tells (g.H.Shelf.file c.args.shelf.now) in
    let read : HasPlan files c.args.map_name.now c.args.plan_name.now c.in_ok-grid.grid c.in_ok-raw.raw = record {
      on = record { bytes = c.in_ok-map.map.items; paper = c.in_ok-map.ensures.read; text = rw c.deref.ensures.value at c.in_ok-grid.ensures.read };
      bytes = c.in_ok-text.text.items;
      paper = same_paper files (g.H.Shelf.file c.fetch.new.shelf) c.args.plan_name.now c.in_ok-text.text.items c.fetch.ensures.files c.in_ok-text.ensures.read;
      text = rw c.deref-2.ensures.value at c.in_ok-raw.ensures.read;
    } in
    let failed : List ℕ → Type 0 = failed_at g.H.Shelf.tells (g.H.Shelf.asked c.fetch-2.new.shelf) (HasFailed (g.H.Shelf.counts c.args.shelf.now) (g.H.Shelf.counts c.fetch-2.new.shelf)) in
    told_on _ c.from_residual-in_err-plan.result (of_check c.in_err-plan.field-0.0) (HasReason files failed c.args.map_name.now c.args.plan_name.now) c.from_residual-in_err-plan.ensures.1
    (check_reason files failed c.args.map_name.now c.args.plan_name.now c.in_ok-grid.grid c.in_ok-raw.raw c.in_err-plan.field-0.0 read (λ u same. c.in_err-plan.ensures.unsound u (ap Err same)))
