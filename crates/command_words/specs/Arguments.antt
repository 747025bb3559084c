-- What `clap` is told of each command.
use Rattle.std.specs.Prelude.{ℕ, ◌≡◌, ◌∷◌, List, codes, Some, Bool, true, false}
use Rattle.clap.specs.Walk.{Text}
use Rattle.clap.specs.Simple.{App, new_app, new_rule, on_top, with_rule}
use Rattle.clap.specs.Matches.{first_value, one_text}
use Rattle.clap.specs.declared.builder.action.ArgAction.TheVariants.{SetTrue}
use Rattle.clap.specs.declared.parser.matches.Found.{Found}
use Rattle.command_words.specs.declared.command.Command.{Command}
use Rattle.command_words.specs.declared.command.Command.TheVariants.{Check, Run, Gen, Plan}
use Rattle.fleet_base.specs.Bytes.{IsNumber}
use Rattle.fleet_base.specs.Limits.{budget_limit, robot_limit, tick_limit}
use Rattle.command_words.specs.Grammar.{IsNumberOr}

-- a command with no arguments yet, and without the flag for help
abbrev pub begun : Text → App
begun word = on_top (λ s. record s { disable_help_flag = true }) (new_app word)

-- `check MAP PLAN`
abbrev pub check_app : App
check_app = with_rule (with_rule (begun (codes "check")) (new_rule (codes "map"))) (new_rule (codes "plan"))

-- `run MAP PLAN JOURNAL [--budget N] [--quiet]`
abbrev pub run_app : App
run_app = with_rule (with_rule (with_rule (with_rule (with_rule (begun (codes "run")) (record (new_rule (codes "budget")) { long = Some (codes "budget") })) (record (new_rule (codes "quiet")) { long = Some (codes "quiet"); action = Some SetTrue }))
    (new_rule (codes "map"))) (new_rule (codes "plan"))) (new_rule (codes "journal"))

-- `gen SEED [--plan]`
abbrev pub gen_app : App
gen_app = with_rule (with_rule (begun (codes "gen")) (record (new_rule (codes "plan")) { long = Some (codes "plan"); action = Some SetTrue })) (new_rule (codes "seed"))

-- `plan MAP SCEN [--robots N] [--horizon H]`
abbrev pub plan_app : App
plan_app = with_rule (with_rule (with_rule (with_rule (begun (codes "plan")) (record (new_rule (codes "robots")) { long = Some (codes "robots") })) (record (new_rule (codes "horizon")) { long = Some (codes "horizon") }))
    (new_rule (codes "map"))) (new_rule (codes "scen"))

-- the first of the words is this one
abbrev pub BeginsWith : List ℕ → List (List ℕ) → Type 0
BeginsWith word words = (rest : List (List ℕ)) × (words ≡ word ∷ rest)

-- the flag that was found
pub record IsFoundFlag (found : Found) (id : List ℕ) (flag : Bool) : Type 0 where
  pub given : one_text found id ≡ Some (codes "true") → flag ≡ true
  pub absent : one_text found id ≡ Some (codes "false") → flag ≡ false

-- what was found is this `check`
abbrev pub IsFoundCheck : Found → Command → Type 0
IsFoundCheck found (Check m p) = (first_value found (codes "map") ≡ Some m.now) × (first_value found (codes "plan") ≡ Some p.now)
IsFoundCheck found _ = ⊥

-- what was found is this `run`
abbrev pub IsFoundRun : Found → Command → Type 0
IsFoundRun found (Run m p j budget quiet) = (first_value found (codes "map") ≡ Some m.now) × (first_value found (codes "plan") ≡ Some p.now) × (first_value found (codes "journal") ≡ Some j.now)
    × IsNumberOr 128 0 budget_limit (first_value found (codes "budget")) budget × IsFoundFlag found (codes "quiet") quiet
IsFoundRun found _ = ⊥

-- what was found is this `gen`
abbrev pub IsFoundGen : Found → Command → Type 0
IsFoundGen found (Gen seed plan) = ((name : List ℕ) × (first_value found (codes "seed") ≡ Some name) × IsNumber name seed) × IsFoundFlag found (codes "plan") plan
IsFoundGen found _ = ⊥

-- what was found is this `plan`
abbrev pub IsFoundPlan : Found → Command → Type 0
IsFoundPlan found (Plan m s robots horizon) = (first_value found (codes "map") ≡ Some m.now) × (first_value found (codes "scen") ≡ Some s.now)
    × IsNumberOr 32 1 robot_limit (first_value found (codes "robots")) robots × IsNumberOr 1024 1 tick_limit (first_value found (codes "horizon")) horizon
IsFoundPlan found _ = ⊥
