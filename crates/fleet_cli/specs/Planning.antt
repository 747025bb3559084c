-- What a command on the tasks of a scenario sends, and when it is refused.
use Rattle.std.specs.Prelude.{ℕ, ◌≡◌, List, take}
use Rattle.fleet_base.specs.declared.geometry.Cell.{Cell}
use Rattle.fleet_base.specs.Grid.{OccupancyGrid}
use Rattle.fleet_base.specs.Bytes.{file_lines}
use Rattle.map_text.specs.declared.scenario.Task.{Task}
use Rattle.map_text.specs.MapFaults.{IsMapFault}
use Rattle.map_text.specs.ScenText.{IsScenText}
use Rattle.map_text.specs.ScenFaults.{IsScenFault}
use Rattle.plan_text.specs.PlanText.{plan_text_of}
use Rattle.path_planner.specs.Tasks.{AreGood, IsFirstBad}
use Rattle.path_planner.specs.Planning.{IsPlannedInTurn, IsWithoutPath}
use Rattle.fleet_cli.specs.declared.fault.Paper.TheVariants as paper
use Rattle.fleet_cli.specs.declared.fault.Fault.{Fault}
use Rattle.fleet_cli.specs.declared.fault.Fault.TheVariants.{Long, Unread, Map, Scen, BadTask, NoPath}
use Rattle.command_words.specs.declared.command.Command.{Command}
use Rattle.command_words.specs.Commands.{IsCommand}
use Rattle.fleet_cli.specs.Words.{PlansWith}
use Rattle.fleet_cli.specs.Papers.{Files, IsPaper, IsLong, HasMap, HasAMap}

-- the words ask for a plan, on the map of this name, for so many tasks of the scenario of this name, with this horizon
pub record AsksForPlan (words : List (List ℕ)) (map_name scen_name : List ℕ) (robots horizon : ℕ) : Type 0 where
  pub command : Command
  pub words_are : IsCommand words command
  pub plans : PlansWith command map_name scen_name robots horizon

-- the file of the first name is this map, and the other one a scenario, which has these tasks
pub record HasTasks (files : Files) (map_name scen_name : List ℕ) (grid : OccupancyGrid) (tasks : List Task) : Type 0 where
  pub on : HasMap files map_name grid
  pub bytes : List ℕ
  pub paper : IsPaper files scen_name bytes
  pub text : IsScenText bytes tasks

-- The first so many tasks of the scenario, or all where there are fewer, are good on the map, and this is the canonical text of
-- their plan in turn.
pub record IsPlanFor (files : Files) (map_name scen_name : List ℕ) (robots horizon : ℕ) (text : List ℕ) : Type 0 where
  pub grid : OccupancyGrid
  pub tasks : List Task
  pub has : HasTasks files map_name scen_name grid tasks
  pub good : AreGood grid (take robots tasks)
  pub plan : List (List Cell)
  pub planned : IsPlannedInTurn grid horizon (take robots tasks) plan
  pub text_is : text ≡ plan_text_of plan

-- The first of these that is so of the files with these names, in this order: the map's file, the map, the scenario's file, the
-- scenario, its tasks, the path of a robot. The second argument says that the shelf failed at the file of a name.
abbrev pub IsUnplanned : Files → (List ℕ → Type 0) → List ℕ → List ℕ → ℕ → ℕ → Fault → Type 0
IsUnplanned files failed map_name scen_name robots horizon (Long paper.Map n) = IsLong files map_name n
IsUnplanned files failed map_name scen_name robots horizon (Unread paper.Map) = failed map_name
IsUnplanned files failed map_name scen_name robots horizon (Map f) = (bytes : List ℕ) × IsPaper files map_name bytes × IsMapFault (file_lines bytes) f.line f.kind
IsUnplanned files failed map_name scen_name robots horizon (Long paper.Scen n) = HasAMap files map_name × IsLong files scen_name n
IsUnplanned files failed map_name scen_name robots horizon (Unread paper.Scen) = HasAMap files map_name × failed scen_name
IsUnplanned files failed map_name scen_name robots horizon (Scen f) = HasAMap files map_name × ((bytes : List ℕ) × IsPaper files scen_name bytes × IsScenFault (file_lines bytes) f.line f.kind)
IsUnplanned files failed map_name scen_name robots horizon (BadTask i why) = (grid : OccupancyGrid) × (tasks : List Task) × HasTasks files map_name scen_name grid tasks × IsFirstBad grid (take robots tasks) i why
IsUnplanned files failed map_name scen_name robots horizon (NoPath i) = (grid : OccupancyGrid) × (tasks : List Task) × HasTasks files map_name scen_name grid tasks × AreGood grid (take robots tasks) × IsWithoutPath grid horizon (take robots tasks) i
IsUnplanned files failed map_name scen_name robots horizon _ = ⊥
