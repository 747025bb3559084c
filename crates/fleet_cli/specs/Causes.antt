-- When each refusal comes.
use Rattle.std.specs.Prelude.{ℕ, ◌≡◌, ◌⊎◌, ◌<◌, List, length}
use Rattle.fleet_base.specs.declared.geometry.Cell.{Cell}
use Rattle.fleet_base.specs.declared.geometry.PlannedVisit.{PlannedVisit}
use Rattle.fleet_base.specs.Grid.{OccupancyGrid}
use Rattle.fleet_base.specs.Bytes.{file_lines}
use Rattle.fleet_base.specs.Pairs.{pairs_of}
use Rattle.fleet_base.specs.Limits.{pair_limit}
use Rattle.map_text.specs.MapFaults.{IsMapFault}
use Rattle.plan_text.specs.PlanText.{robot_lines}
use Rattle.plan_text.specs.PlanFaults.{IsPlanFault}
use Rattle.plan_check.specs.Faults.{IsFirstFault}
use Rattle.fleet_cli.specs.declared.fault.Paper.TheVariants as paper
use Rattle.fleet_cli.specs.declared.fault.Fault.{Fault}
use Rattle.fleet_cli.specs.declared.fault.Fault.TheVariants.{Usage, Long, Unread, Map, Plan, Unsound, Pairs}
use Rattle.command_words.specs.declared.command.Command.{Command}
use Rattle.fleet_cli.specs.Words.{IsCommandOn}
use Rattle.command_words.specs.Commands.{IsUsage}
use Rattle.fleet_cli.specs.Papers.{Files, IsPaper, IsLong, HasMap, HasAMap, HasPlan, HasRoutes}
use Rattle.fleet_cli.specs.Planning.{AsksForPlan, IsUnplanned}

-- The first of these that is so of the files with these names, in this order: the map's file, the map, the plan's file, the
-- plan, its moves, its pairs. The second argument says that the shelf failed at the file of a name.
abbrev pub IsRefused : Files → (List ℕ → Type 0) → List ℕ → List ℕ → Fault → Type 0
IsRefused files failed map_name plan_name (Long paper.Map n) = IsLong files map_name n
IsRefused files failed map_name plan_name (Unread paper.Map) = failed map_name
IsRefused files failed map_name plan_name (Map f) = (bytes : List ℕ) × IsPaper files map_name bytes × IsMapFault (file_lines bytes) f.line f.kind
IsRefused files failed map_name plan_name (Long paper.Plan n) = HasAMap files map_name × IsLong files plan_name n
IsRefused files failed map_name plan_name (Unread paper.Plan) = HasAMap files map_name × failed plan_name
IsRefused files failed map_name plan_name (Plan f) = (grid : OccupancyGrid) × HasMap files map_name grid × ((bytes : List ℕ) × IsPaper files plan_name bytes × IsPlanFault (robot_lines bytes) f.line f.column f.kind)
IsRefused files failed map_name plan_name (Unsound u) = (grid : OccupancyGrid) × (plan : List (List Cell)) × HasPlan files map_name plan_name grid plan × IsFirstFault grid plan u
IsRefused files failed map_name plan_name (Pairs n) = (routes : List (List PlannedVisit)) × HasRoutes files map_name plan_name routes × (pair_limit < n) × (n ≡ length (pairs_of routes))
IsRefused files failed map_name plan_name _ = ⊥

-- these words call for this refusal, of a check or a run
abbrev pub IsPlanCause : Files → (List ℕ → Type 0) → List (List ℕ) → Fault → Type 0
IsPlanCause files failed words fault = (command : Command) × (map_name plan_name : List ℕ) × IsCommandOn words command map_name plan_name × IsRefused files failed map_name plan_name fault

-- these words call for this refusal, where a plan is asked for
abbrev pub IsTaskCause : Files → (List ℕ → Type 0) → List (List ℕ) → Fault → Type 0
IsTaskCause files failed words fault = (map_name scen_name : List ℕ) × (robots horizon : ℕ) × AsksForPlan words map_name scen_name robots horizon × IsUnplanned files failed map_name scen_name robots horizon fault

-- these words call for this refusal
abbrev pub IsCause : Files → (List ℕ → Type 0) → List (List ℕ) → Fault → Type 0
IsCause files failed words Usage = IsUsage words
IsCause files failed words fault = IsPlanCause files failed words fault ⊎ IsTaskCause files failed words fault
