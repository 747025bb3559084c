-- What the words and the files of a call ask for.
use Rattle.std.specs.Prelude.{ℕ, ◌≡◌, Bool, List, [], ◌∷◌, ◌++◌}
use Rattle.fleet_base.specs.declared.geometry.PlannedVisit.{PlannedVisit}
use Rattle.fleet_base.specs.declared.status.Status.{Status}
use Rattle.fleet_base.specs.declared.status.Status.TheVariants.{Done}
use Rattle.fleet_cli.specs.declared.fault.Fault.{Fault}
use Rattle.command_words.specs.declared.command.Command.{Command}
use Rattle.fleet_cli.specs.Words.{IsCommandOn, Checks}
use Rattle.fleet_cli.specs.Papers.{Files, IsSoundPaper}
use Rattle.fleet_cli.specs.Generating.{AsksForFleet, IsFleetText}
use Rattle.fleet_cli.specs.Planning.{AsksForPlan, IsPlanFor}
use Rattle.fleet_cli.specs.Causes.{IsCause}
use Rattle.fleet_recovery.specs.Papers.{Papers}
use Rattle.fleet_cli.specs.Lines.{fault_line, status_of, sound_line}

-- the words ask for this command on a plan that is sound, with these routes, and these are the bytes of its files
pub record IsAsked (files : Files) (words : List (List ℕ)) (command : Command) (papers : Papers) (routes : List (List PlannedVisit)) : Type 0 where
  pub map_name : List ℕ
  pub plan_name : List ℕ
  pub words_are : IsCommandOn words command map_name plan_name
  pub sound : IsSoundPaper files map_name plan_name papers routes

-- the words ask for this text: of a generated fleet, or of a plan
pub data IsMade (files : Files) (words : List (List ℕ)) (text : List ℕ) : Type 0 where
  a_fleet : (seed : ℕ) (plan : Bool) → AsksForFleet words seed plan → IsFleetText seed plan text → IsMade files words text
  a_plan : (map_name scen_name : List ℕ) (robots horizon : ℕ) → AsksForPlan words map_name scen_name robots horizon → IsPlanFor files map_name scen_name robots horizon text → IsMade files words text

-- The words and the files make this the text of a call, with this status: the line of a plan that is checked, the text that the
-- words ask for, or the line of a refusal.
pub data IsDue (files : Files) (failed : List ℕ → Type 0) (words : List (List ℕ)) (end : Status) (text : List ℕ) : Type 0 where
  a_check : end ≡ Done → (command : Command) (papers : Papers) (routes : List (List PlannedVisit)) → Checks command → IsAsked files words command papers routes → text ≡ sound_line routes ++ 10 ∷ [] → IsDue files failed words end text
  a_made_text : end ≡ Done → IsMade files words text → IsDue files failed words end text
  a_refusal : (fault : Fault) → IsCause files failed words fault → end ≡ status_of fault → text ≡ fault_line fault ++ 10 ∷ [] → IsDue files failed words end text
