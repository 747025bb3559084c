-- What a command on a generated fleet sends.
use Rattle.std.specs.Prelude.{ℕ, ◌≡◌, Bool, true, false, List}
use Rattle.fleet_base.specs.declared.geometry.Cell.{Cell}
use Rattle.map_text.specs.MapText.{map_text_of}
use Rattle.plan_text.specs.PlanText.{plan_text_of}
use Rattle.fleet_gen.specs.Fleets.{IsGeneratedPlan, generated_grid}
use Rattle.command_words.specs.declared.command.Command.{Command}
use Rattle.command_words.specs.Commands.{IsCommand}
use Rattle.fleet_cli.specs.Words.{GeneratesWith}

-- the canonical text of the generated fleet of a seed: of its plan, if that is asked for, and else of its map
abbrev pub IsFleetText : ℕ → Bool → List ℕ → Type 0
IsFleetText seed true text = (plan : List (List Cell)) × IsGeneratedPlan seed plan × (text ≡ plan_text_of plan)
IsFleetText seed false text = text ≡ map_text_of (generated_grid seed)

-- the words ask for the generated fleet of this seed, and for its plan if the flag says so
pub record AsksForFleet (words : List (List ℕ)) (seed : ℕ) (plan : Bool) : Type 0 where
  pub command : Command
  pub words_are : IsCommand words command
  pub generates : GeneratesWith command seed plan
