-- The lines that the program sends of itself.
use Rattle.std.specs.Prelude.{ℕ, List, [], ◌∷◌, ◌++◌, length, sum_by, codes}
use Rattle.fleet_base.specs.declared.geometry.PlannedVisit.{PlannedVisit}
use Rattle.fleet_base.specs.declared.status.Status.{Status}
use Rattle.fleet_base.specs.declared.status.Status.TheVariants as status
use Rattle.fleet_base.specs.Bytes.{fields}
use Rattle.fleet_base.specs.Pairs.{pairs_of}
use Rattle.map_text.specs.declared.fault.MapKind.{MapKind}
use Rattle.map_text.specs.declared.fault.MapKind.TheVariants as map_kind
use Rattle.map_text.specs.declared.scenario.ScenKind.{ScenKind}
use Rattle.map_text.specs.declared.scenario.ScenKind.TheVariants as scen_kind
use Rattle.path_planner.specs.declared.fault.TaskWhy.{TaskWhy}
use Rattle.path_planner.specs.declared.fault.TaskWhy.TheVariants as task_why
use Rattle.plan_text.specs.declared.fault.PlanKind.{PlanKind}
use Rattle.plan_text.specs.declared.fault.PlanKind.TheVariants as plan_kind
use Rattle.plan_check.specs.declared.fault.Large.{Large}
use Rattle.plan_check.specs.declared.fault.Large.TheVariants as large
use Rattle.plan_check.specs.declared.fault.Unsound.{Unsound}
use Rattle.plan_check.specs.declared.fault.Unsound.TheVariants as unsound
use Rattle.fleet_cli.specs.declared.fault.Paper.{Paper}
use Rattle.fleet_cli.specs.declared.fault.Paper.TheVariants as paper
use Rattle.fleet_cli.specs.declared.fault.Fault.{Fault}
use Rattle.fleet_cli.specs.declared.fault.Fault.TheVariants as fault

-- the word of a file
abbrev pub paper_word : Paper → List ℕ
paper_word paper.Map = codes "map"
paper_word paper.Plan = codes "plan"
paper_word paper.Scen = codes "scen"

-- the word of what is wrong with a map
abbrev pub map_word : MapKind → List ℕ
map_word map_kind.Octile = codes "type"
map_word map_kind.Height = codes "height"
map_word map_kind.Width = codes "width"
map_word map_kind.Size = codes "size"
map_word map_kind.Map = codes "map"
map_word map_kind.Short = codes "short"
map_word map_kind.Row = codes "row"
map_word map_kind.Char = codes "char"
map_word map_kind.More = codes "more"

-- the word of what is wrong with a plan
abbrev pub plan_word : PlanKind → List ℕ
plan_word plan_kind.Label = codes "label"
plan_word plan_kind.Path = codes "path"
plan_word plan_kind.Empty = codes "empty"

-- the word of what is wrong with a scenario
abbrev pub scen_word : ScenKind → List ℕ
scen_word scen_kind.Version = codes "version"
scen_word scen_kind.Fields = codes "fields"
scen_word scen_kind.Number = codes "number"
scen_word scen_kind.Empty = codes "empty"

-- the word of what is wrong with a task
abbrev pub task_word : TaskWhy → List ℕ
task_word task_why.Size = codes "size"
task_word task_why.Start = codes "start"
task_word task_why.Goal = codes "goal"
task_word task_why.SameStart = codes "samestart"
task_word task_why.SameGoal = codes "samegoal"

-- the word of a limit
abbrev pub large_word : Large → List ℕ
large_word large.Robots = codes "robots"
large_word large.Ticks = codes "ticks"
large_word large.Visits = codes "visits"

-- the line of a plan that cannot be carried out
abbrev pub unsound_line : Unsound → List ℕ
unsound_line (unsound.TooLarge which count) = codes "fault large " ++ large_word which ++ fields (count ∷ [])
unsound_line (unsound.Blocked i t) = codes "fault blocked" ++ fields (i ∷ t ∷ [])
unsound_line (unsound.Jump i t) = codes "fault jump" ++ fields (i ∷ t ∷ [])
unsound_line (unsound.Share i j t) = codes "fault share" ++ fields (i ∷ j ∷ t ∷ [])
unsound_line (unsound.Swap i j t) = codes "fault swap" ++ fields (i ∷ j ∷ t ∷ [])
unsound_line (unsound.Rotation robots t) = codes "fault rotation" ++ fields (t ∷ robots)

-- the line of a refusal
abbrev pub fault_line : Fault → List ℕ
fault_line fault.Usage = codes "fault usage"
fault_line (fault.Long which n) = codes "fault long " ++ paper_word which ++ fields (n ∷ [])
fault_line (fault.Unread which) = codes "fault read " ++ paper_word which
fault_line (fault.Map f) = codes "fault map" ++ fields (f.line ∷ []) ++ codes " " ++ map_word f.kind
fault_line (fault.Plan f) = codes "fault plan" ++ fields (f.line ∷ f.column ∷ []) ++ codes " " ++ plan_word f.kind
fault_line (fault.Unsound u) = unsound_line u
fault_line (fault.Pairs n) = codes "fault pairs" ++ fields (n ∷ [])
fault_line (fault.Scen f) = codes "fault scen" ++ fields (f.line ∷ []) ++ codes " " ++ scen_word f.kind
fault_line (fault.BadTask i why) = codes "fault task" ++ fields (i ∷ []) ++ codes " " ++ task_word why
fault_line (fault.NoPath i) = codes "fault nopath" ++ fields (i ∷ [])

-- the status of a refusal
abbrev pub status_of : Fault → Status
status_of fault.Usage = status.Usage
status_of (fault.Long which n) = status.Input
status_of (fault.Unread which) = status.ReadFault
status_of (fault.Map f) = status.Input
status_of (fault.Plan f) = status.Input
status_of (fault.Unsound u) = status.Input
status_of (fault.Pairs n) = status.Input
status_of (fault.Scen f) = status.Input
status_of (fault.BadTask i why) = status.Input
status_of (fault.NoPath i) = status.Input

-- how many robots, visits and pairs a plan has
abbrev pub sound_line : List (List PlannedVisit) → List ℕ
sound_line routes = codes "sound" ++ fields (length routes ∷ sum_by length routes ∷ length (pairs_of routes) ∷ [])
