-- What the steps of a plan for tasks say of the whole: each refusal has its cause.
use Rattle.std.proofs.Common.{ℕ, ◌≡◌, inr, List, take, Option, Err}
use Rattle.fleet_base.specs.Grid.{OccupancyGrid}
use Rattle.fleet_base.specs.Bytes.{file_lines}
use Rattle.map_text.specs.declared.fault.MapError.{MapError}
use Rattle.map_text.specs.declared.fault.MapError.TheVariants as map_error
use Rattle.map_text.specs.MapFaults.{FaultIsFirst}
use Rattle.map_text.specs.declared.scenario.ScenError.{ScenError}
use Rattle.map_text.specs.declared.scenario.ScenError.TheVariants as scen_error
use Rattle.map_text.specs.ScenFaults.{ScenFaultIsFirst}
use Rattle.path_planner.specs.declared.fault.PlannerError.{PlannerError}
use Rattle.path_planner.specs.declared.fault.PlannerError.TheVariants as planner_error
use Rattle.path_planner.specs.Planning.{RefusalIsRight}
use Rattle.map_text.specs.declared.scenario.Task.{Task}
use Rattle.fleet_cli.specs.declared.fault.Paper.TheVariants as paper
use Rattle.fleet_cli.specs.declared.fault.Fault.TheVariants.{Usage, Long, Unread, Map, Plan, Unsound, Pairs, Scen, BadTask, NoPath}
use Rattle.fleet_cli.specs.declared.fault.Refusal.{Refusal}
use Rattle.fleet_cli.specs.declared.fault.Refusal.TheVariants.{Fault, Memory}
use Rattle.fleet_cli.specs.Papers.{Files, IsPaper, HasMap}
use Rattle.fleet_cli.specs.Planning.{AsksForPlan, HasTasks}
use Rattle.fleet_cli.specs.Fetching.{IsUnfetched, HasTaskReason}
use Rattle.fleet_cli.specs.Refusals.{of_map, of_scen, of_planner}
use Rattle.fleet_cli.specs.Tasks.{IsCalledFor}
use Rattle.fleet_cli.proofs.Reasons.{later, same_long}

pub no_map_file : (files : Files) (failed : List ℕ → Type 0) (map_name scen_name : List ℕ) (robots horizon : ℕ) (r : Refusal) → IsUnfetched files failed map_name paper.Map r → HasTaskReason files failed map_name scen_name robots horizon r
no_map_file files failed map_name scen_name robots horizon (Fault Usage) u = absurd u
no_map_file files failed map_name scen_name robots horizon (Fault (Long paper.Map n)) u = u.1
no_map_file files failed map_name scen_name robots horizon (Fault (Long paper.Plan n)) u = let e : paper.Plan ≡ paper.Map = u.0 in cc
no_map_file files failed map_name scen_name robots horizon (Fault (Long paper.Scen n)) u = let e : paper.Scen ≡ paper.Map = u.0 in cc
no_map_file files failed map_name scen_name robots horizon (Fault (Unread paper.Map)) u = u.1
no_map_file files failed map_name scen_name robots horizon (Fault (Unread paper.Plan)) u = let e : paper.Plan ≡ paper.Map = u.0 in cc
no_map_file files failed map_name scen_name robots horizon (Fault (Unread paper.Scen)) u = let e : paper.Scen ≡ paper.Map = u.0 in cc
no_map_file files failed map_name scen_name robots horizon (Fault (Map f)) u = absurd u
no_map_file files failed map_name scen_name robots horizon (Fault (Plan f)) u = absurd u
no_map_file files failed map_name scen_name robots horizon (Fault (Unsound f)) u = absurd u
no_map_file files failed map_name scen_name robots horizon (Fault (Pairs n)) u = absurd u
no_map_file files failed map_name scen_name robots horizon (Fault (Scen f)) u = absurd u
no_map_file files failed map_name scen_name robots horizon (Fault (BadTask i why)) u = absurd u
no_map_file files failed map_name scen_name robots horizon (Fault (NoPath i)) u = absurd u
no_map_file files failed map_name scen_name robots horizon Memory u = tt

pub no_scen_file : (files : Files) (file : List ℕ → Option (List ℕ)) (failed now_failed : List ℕ → Type 0) (map_name scen_name : List ℕ) (robots horizon : ℕ) (grid : OccupancyGrid) (r : Refusal) → (files.tells → (n : List ℕ) → file n ≡ files.file n) → ((name : List ℕ) → now_failed name → failed name)
    → HasMap files map_name grid → IsUnfetched (later files file) now_failed scen_name paper.Scen r → HasTaskReason files failed map_name scen_name robots horizon r
no_scen_file files file failed now_failed map_name scen_name robots horizon grid (Fault Usage) same rose m u = absurd u
no_scen_file files file failed now_failed map_name scen_name robots horizon grid (Fault (Long paper.Map n)) same rose m u = let e : paper.Map ≡ paper.Scen = u.0 in cc
no_scen_file files file failed now_failed map_name scen_name robots horizon grid (Fault (Long paper.Plan n)) same rose m u = let e : paper.Plan ≡ paper.Scen = u.0 in cc
no_scen_file files file failed now_failed map_name scen_name robots horizon grid (Fault (Long paper.Scen n)) same rose m u = ((grid, m), same_long files file scen_name n same u.1)
no_scen_file files file failed now_failed map_name scen_name robots horizon grid (Fault (Unread paper.Map)) same rose m u = let e : paper.Map ≡ paper.Scen = u.0 in cc
no_scen_file files file failed now_failed map_name scen_name robots horizon grid (Fault (Unread paper.Plan)) same rose m u = let e : paper.Plan ≡ paper.Scen = u.0 in cc
no_scen_file files file failed now_failed map_name scen_name robots horizon grid (Fault (Unread paper.Scen)) same rose m u = ((grid, m), rose _ u.1)
no_scen_file files file failed now_failed map_name scen_name robots horizon grid (Fault (Map f)) same rose m u = absurd u
no_scen_file files file failed now_failed map_name scen_name robots horizon grid (Fault (Plan f)) same rose m u = absurd u
no_scen_file files file failed now_failed map_name scen_name robots horizon grid (Fault (Unsound f)) same rose m u = absurd u
no_scen_file files file failed now_failed map_name scen_name robots horizon grid (Fault (Pairs n)) same rose m u = absurd u
no_scen_file files file failed now_failed map_name scen_name robots horizon grid (Fault (Scen f)) same rose m u = absurd u
no_scen_file files file failed now_failed map_name scen_name robots horizon grid (Fault (BadTask i why)) same rose m u = absurd u
no_scen_file files file failed now_failed map_name scen_name robots horizon grid (Fault (NoPath i)) same rose m u = absurd u
no_scen_file files file failed now_failed map_name scen_name robots horizon grid Memory same rose m u = tt

-- what a part refuses is refused of the whole
pub map_refused : (files : Files) (failed : List ℕ → Type 0) (map_name scen_name bytes : List ℕ) (robots horizon : ℕ) (e : MapError) → IsPaper files map_name bytes → FaultIsFirst (file_lines bytes) (Err e) → HasTaskReason files failed map_name scen_name robots horizon (of_map e)
map_refused files failed map_name scen_name bytes robots horizon (map_error.Fault f) p first = (bytes, p, first)
map_refused files failed map_name scen_name bytes robots horizon map_error.Memory p first = tt

pub scen_refused : (files : Files) (failed : List ℕ → Type 0) (map_name scen_name bytes : List ℕ) (robots horizon : ℕ) (grid : OccupancyGrid) (e : ScenError) → HasMap files map_name grid → IsPaper files scen_name bytes → ScenFaultIsFirst (file_lines bytes) (Err e) → HasTaskReason files failed map_name scen_name robots horizon (of_scen e)
scen_refused files failed map_name scen_name bytes robots horizon grid (scen_error.Fault f) m p first = ((grid, m), (bytes, p, first))
scen_refused files failed map_name scen_name bytes robots horizon grid scen_error.Memory m p first = tt

pub plan_refused : (files : Files) (failed : List ℕ → Type 0) (map_name scen_name : List ℕ) (robots horizon : ℕ) (grid : OccupancyGrid) (tasks : List Task) (e : PlannerError) → HasTasks files map_name scen_name grid tasks → RefusalIsRight grid horizon (take robots tasks) (Err e) → HasTaskReason files failed map_name scen_name robots horizon (of_planner e)
plan_refused files failed map_name scen_name robots horizon grid tasks (planner_error.BadTask i why) h right = (grid, tasks, h, right)
plan_refused files failed map_name scen_name robots horizon grid tasks (planner_error.NoPath i) h right = (grid, tasks, h, right.0, right.1)
plan_refused files failed map_name scen_name robots horizon grid tasks planner_error.Memory h right = tt

-- ---- the words

-- the words of a plan call for its refusal
pub called_for : (files : Files) (failed : List ℕ → Type 0) (words : List (List ℕ)) (map_name scen_name : List ℕ) (robots horizon : ℕ) (r : Refusal) → AsksForPlan words map_name scen_name robots horizon → HasTaskReason files failed map_name scen_name robots horizon r → IsCalledFor files failed words r
called_for files failed words map_name scen_name robots horizon (Fault Usage) asks u = absurd u
called_for files failed words map_name scen_name robots horizon (Fault (Long which n)) asks u = inr (map_name, scen_name, robots, horizon, asks, u)
called_for files failed words map_name scen_name robots horizon (Fault (Unread which)) asks u = inr (map_name, scen_name, robots, horizon, asks, u)
called_for files failed words map_name scen_name robots horizon (Fault (Map f)) asks u = inr (map_name, scen_name, robots, horizon, asks, u)
called_for files failed words map_name scen_name robots horizon (Fault (Plan f)) asks u = inr (map_name, scen_name, robots, horizon, asks, u)
called_for files failed words map_name scen_name robots horizon (Fault (Unsound f)) asks u = inr (map_name, scen_name, robots, horizon, asks, u)
called_for files failed words map_name scen_name robots horizon (Fault (Pairs n)) asks u = inr (map_name, scen_name, robots, horizon, asks, u)
called_for files failed words map_name scen_name robots horizon (Fault (Scen f)) asks u = inr (map_name, scen_name, robots, horizon, asks, u)
called_for files failed words map_name scen_name robots horizon (Fault (BadTask i why)) asks u = inr (map_name, scen_name, robots, horizon, asks, u)
called_for files failed words map_name scen_name robots horizon (Fault (NoPath i)) asks u = inr (map_name, scen_name, robots, horizon, asks, u)
called_for files failed words map_name scen_name robots horizon Memory asks u = tt
