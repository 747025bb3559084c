-- Errors of the parts of a command, as its refusals.
use Rattle.command_words.specs.declared.command.WordsError.{WordsError}
use Rattle.command_words.specs.declared.command.WordsError.TheVariants as words_error
use Rattle.map_text.specs.declared.fault.MapError.{MapError}
use Rattle.map_text.specs.declared.fault.MapError.TheVariants as map_error
use Rattle.map_text.specs.declared.scenario.ScenError.{ScenError}
use Rattle.map_text.specs.declared.scenario.ScenError.TheVariants as scen_error
use Rattle.path_planner.specs.declared.fault.PlannerError.{PlannerError}
use Rattle.path_planner.specs.declared.fault.PlannerError.TheVariants as planner_error
use Rattle.plan_check.specs.declared.fault.CheckError.{CheckError}
use Rattle.plan_check.specs.declared.fault.CheckError.TheVariants as check_error
use Rattle.plan_text.specs.declared.fault.PlanError.{PlanError}
use Rattle.plan_text.specs.declared.fault.PlanError.TheVariants as plan_error
use Rattle.switch_pairs.specs.declared.error.PairsError.{PairsError}
use Rattle.switch_pairs.specs.declared.error.PairsError.TheVariants as pairs_error
use Rattle.fleet_cli.specs.declared.fault.Fault.TheVariants.{Usage, Map, Plan, Unsound, Pairs, Scen, BadTask, NoPath}
use Rattle.fleet_cli.specs.declared.fault.Refusal.{Refusal}
use Rattle.fleet_cli.specs.declared.fault.Refusal.TheVariants.{Fault, Memory}

-- of the words
abbrev pub of_words : WordsError → Refusal
of_words words_error.Usage = Fault Usage
of_words words_error.Memory = Memory

-- of a map
abbrev pub of_map : MapError → Refusal
of_map (map_error.Fault f) = Fault (Map f)
of_map map_error.Memory = Memory

-- of a plan
abbrev pub of_plan : PlanError → Refusal
of_plan (plan_error.Fault f) = Fault (Plan f)
of_plan plan_error.Memory = Memory

-- of its moves
abbrev pub of_check : CheckError → Refusal
of_check (check_error.Unsound u) = Fault (Unsound u)
of_check check_error.Memory = Memory

-- of its pairs
abbrev pub of_pairs : PairsError → Refusal
of_pairs (pairs_error.TooMany count) = Fault (Pairs count)
of_pairs pairs_error.Memory = Memory

-- of a scenario
abbrev pub of_scen : ScenError → Refusal
of_scen (scen_error.Fault f) = Fault (Scen f)
of_scen scen_error.Memory = Memory

-- of a plan in turn
abbrev pub of_planner : PlannerError → Refusal
of_planner (planner_error.BadTask i why) = Fault (BadTask i why)
of_planner (planner_error.NoPath i) = Fault (NoPath i)
of_planner planner_error.Memory = Memory
