-- The command that words ask for.
use Rattle.std.specs.Prelude.{ℕ, ◌≡◌, Bool, List}
use Rattle.command_words.specs.declared.command.Command.{Command}
use Rattle.command_words.specs.declared.command.Command.TheVariants.{Check, Run, Gen, Plan}
use Rattle.command_words.specs.Commands.{IsCommand}

-- the map and the plan that a check or a run names; the other commands name no plan
abbrev pub NamesPapers : Command → List ℕ → List ℕ → Type 0
NamesPapers (Check m p) map_name plan_name = (map_name ≡ m.now) × (plan_name ≡ p.now)
NamesPapers (Run m p journal budget quiet) map_name plan_name = (map_name ≡ m.now) × (plan_name ≡ p.now)
NamesPapers (Gen seed plan) map_name plan_name = ⊥
NamesPapers (Plan m s robots horizon) map_name plan_name = ⊥

-- the words are those of this command, on this map and this plan
pub record IsCommandOn (words : List (List ℕ)) (command : Command) (map_name plan_name : List ℕ) : Type 0 where
  pub words_are : IsCommand words command
  pub papers_are : NamesPapers command map_name plan_name

-- the command is a check
abbrev pub Checks : Command → Type 0
Checks (Check m p) = Unit {0}
Checks _ = ⊥

-- the command is a run
abbrev pub Runs : Command → Type 0
Runs (Run m p journal budget quiet) = Unit {0}
Runs _ = ⊥

-- the command is a run with this journal, this budget and this flag
abbrev pub RunsWith : Command → List ℕ → ℕ → Bool → Type 0
RunsWith (Run m p journal budget quiet) name n flag = (journal.now ≡ name) × (budget ≡ n) × (quiet ≡ flag)
RunsWith _ name n flag = ⊥

-- the command makes the fleet of this seed, and sends its plan if the flag says so
abbrev pub GeneratesWith : Command → ℕ → Bool → Type 0
GeneratesWith (Gen seed plan) k flag = (seed ≡ k) × (plan ≡ flag)
GeneratesWith _ k flag = ⊥

-- the command plans, on the map of this name, so many tasks of the scenario of this name, with this horizon
abbrev pub PlansWith : Command → List ℕ → List ℕ → ℕ → ℕ → Type 0
PlansWith (Plan m s robots horizon) map_name scen_name n h = (m.now ≡ map_name) × (s.now ≡ scen_name) × (robots ≡ n) × (horizon ≡ h)
PlansWith _ map_name scen_name n h = ⊥
