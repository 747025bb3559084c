-- What is to be done for some words, once the files are read.
use Rattle.std.specs.Prelude.{ℕ, ◌≡◌, ◌⊎◌, List, []}
use Rattle.fleet_base.specs.declared.status.Status.{Status}
use Rattle.fleet_base.specs.declared.status.Status.TheVariants.{StationFault}
use Rattle.fleet_base.specs.Pairs.{pairs_of}
use Rattle.fleet_serve.specs.Told.{Told, Sends, SendsPart}
use Rattle.fleet_cli.specs.declared.fault.Refusal.{Refusal}
use Rattle.fleet_cli.specs.declared.fault.Refusal.TheVariants.{Fault, Memory}
use Rattle.fleet_cli.specs.declared.papers.CheckedPapers.{CheckedPapers}
use Rattle.fleet_cli.specs.declared.task.Task.{Task}
use Rattle.fleet_cli.specs.declared.task.Task.TheVariants.{Say, Serve}
use Rattle.command_words.specs.declared.command.Command.{Command}
use Rattle.fleet_cli.specs.Papers.{Files, bytes_of}
use Rattle.fleet_cli.specs.Words.{RunsWith}
use Rattle.fleet_cli.specs.Causes.{IsCause}
use Rattle.fleet_cli.specs.Due.{IsAsked, IsDue}

-- the words ask for this command on these papers
abbrev pub AsksFor : Files → List (List ℕ) → Command → CheckedPapers → Type 0
AsksFor files words command papers = IsAsked files words command (bytes_of papers) papers.plan × (papers.pairs ≡ pairs_of papers.plan)

-- the words and the files call for this refusal; want of memory is free
abbrev pub IsCalledFor : Files → (List ℕ → Type 0) → List (List ℕ) → Refusal → Type 0
IsCalledFor files failed words (Fault fault) = IsCause files failed words fault
IsCalledFor files failed words Memory = Unit {0}

-- the text that is due is to be said, or the plan is to be run
abbrev pub IsTask : Files → (List ℕ → Type 0) → List (List ℕ) → Task → Type 0
IsTask files failed words (Say reply) = IsDue files failed words reply.status reply.text
IsTask files failed words (Serve papers journal budget quiet) = (command : Command) × RunsWith command journal.now budget quiet × AsksFor files words command papers

-- a text was sent whole, and the status is this one; or the station failed
abbrev pub EndsWith : Status → List ℕ → Told → Type 0 → Status → Type 0
EndsWith status text sent failed end = ((end ≡ status) × Sends sent text) ⊎ ((end ≡ StationFault) × failed × SendsPart sent [] text)
