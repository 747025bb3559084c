-- The commands of the program, by the words of its command line without the program's own name.
use Rattle.std.specs.Prelude.{ℕ, ◌≡◌, Bool, List, [], ◌∷◌, codes}
use Rattle.command_words.specs.declared.command.Command.{Command}
use Rattle.command_words.specs.declared.command.Command.TheVariants.{Check, Run, Gen, Plan}
use Rattle.fleet_base.specs.Bytes.{IsNumber}
use Rattle.fleet_base.specs.Limits.{budget_limit, robot_limit, tick_limit}
use Rattle.command_words.specs.Grammar.{Grammar, Part, IsWritten, IsNumberOr, value_in, is_given}

-- `check` has no options
abbrev pub check_grammar : Grammar
check_grammar = record { options = []; flags = [] }

-- `run` has `--budget N` and `--quiet`
abbrev pub run_grammar : Grammar
run_grammar = record { options = codes "budget" ∷ []; flags = codes "quiet" ∷ [] }

-- `gen` has `--plan`
abbrev pub gen_grammar : Grammar
gen_grammar = record { options = []; flags = codes "plan" ∷ [] }

-- `plan` has `--robots N` and `--horizon H`
abbrev pub plan_grammar : Grammar
plan_grammar = record { options = codes "robots" ∷ codes "horizon" ∷ []; flags = [] }

-- the words are `check MAP PLAN`
pub record IsCheck (words : List (List ℕ)) (map_name plan_name : List ℕ) : Type 0 where
  pub parts : List Part
  pub written : IsWritten (codes "check") check_grammar words parts (map_name ∷ plan_name ∷ [])

-- the words are `run MAP PLAN JOURNAL [--budget N] [--quiet]`, with N from 0 to 4,096; without it the budget is 128
pub record IsRun (words : List (List ℕ)) (map_name plan_name journal : List ℕ) (budget : ℕ) (quiet : Bool) : Type 0 where
  pub parts : List Part
  pub written : IsWritten (codes "run") run_grammar words parts (map_name ∷ plan_name ∷ journal ∷ [])
  pub budget_is : IsNumberOr 128 0 budget_limit (value_in (codes "budget") parts) budget
  pub quiet_is : quiet ≡ is_given (codes "quiet") parts

-- the words are `gen SEED [--plan]`, and the seed is a number below 2^64
pub record IsGen (words : List (List ℕ)) (seed : ℕ) (plan : Bool) : Type 0 where
  pub parts : List Part
  pub name : List ℕ
  pub written : IsWritten (codes "gen") gen_grammar words parts (name ∷ [])
  pub seed_is : IsNumber name seed
  pub plan_is : plan ≡ is_given (codes "plan") parts

-- the words are `plan MAP SCEN [--robots N] [--horizon H]`, with N from 1 to 256 and H from 1 to 4,096; without them they are 32 and 1,024
pub record IsPlan (words : List (List ℕ)) (map_name scen_name : List ℕ) (robots horizon : ℕ) : Type 0 where
  pub parts : List Part
  pub written : IsWritten (codes "plan") plan_grammar words parts (map_name ∷ scen_name ∷ [])
  pub robots_is : IsNumberOr 32 1 robot_limit (value_in (codes "robots") parts) robots
  pub horizon_is : IsNumberOr 1024 1 tick_limit (value_in (codes "horizon") parts) horizon

-- the words are those of this command
abbrev pub IsCommand : List (List ℕ) → Command → Type 0
IsCommand words (Check m p) = IsCheck words m.now p.now
IsCommand words (Run m p j budget quiet) = IsRun words m.now p.now j.now budget quiet
IsCommand words (Gen seed plan) = IsGen words seed plan
IsCommand words (Plan m s robots horizon) = IsPlan words m.now s.now robots horizon

-- the words are those of no command
abbrev pub IsUsage : List (List ℕ) → Type 0
IsUsage words = (command : Command) → IsCommand words command → ⊥

-- two commands are one: they have the same names, numbers and flags
abbrev pub AreOne : Command → Command → Type 0
AreOne (Check m p) (Check m2 p2) = (m.now ≡ m2.now) × (p.now ≡ p2.now)
AreOne (Run m p j budget quiet) (Run m2 p2 j2 budget2 quiet2) = (m.now ≡ m2.now) × (p.now ≡ p2.now) × (j.now ≡ j2.now) × (budget ≡ budget2) × (quiet ≡ quiet2)
AreOne (Gen seed plan) (Gen seed2 plan2) = (seed ≡ seed2) × (plan ≡ plan2)
AreOne (Plan m s robots horizon) (Plan m2 s2 robots2 horizon2) = (m.now ≡ m2.now) × (s.now ≡ s2.now) × (robots ≡ robots2) × (horizon ≡ horizon2)
AreOne _ _ = ⊥
