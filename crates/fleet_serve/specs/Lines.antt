-- The lines that a session sends.
use Rattle.std.specs.Prelude.{ℕ, List, [], ◌∷◌, ◌++◌, map, flat_map, length}
use Rattle.fleet_base.specs.declared.geometry.PlannedVisit.{PlannedVisit}
use Rattle.fleet_base.specs.declared.geometry.Visit.{Visit}
use Rattle.fleet_base.specs.Lists.{range}
use Rattle.fleet_base.specs.State.{FleetState, arrived_count, released_count}
use Rattle.fleet_base.specs.World.{release_line}
use Rattle.report_text.specs.declared.answer.Answer.TheVariants.{Ready, Done}
use Rattle.report_text.specs.AnswerLine.{answer_line}

-- the lines that release visits
abbrev pub release_lines : List (List PlannedVisit) → List Visit → List (List ℕ)
release_lines routes visits = map (release_line routes) visits

-- the visits of a robot that are released and have not arrived
abbrev pub pending_of : FleetState → ℕ → List Visit
pending_of x i = map (λ k. record { robot = i; index = k }) (range (arrived_count x i) (released_count x i))

-- the visits that are released and have not arrived, by robot, then by index
abbrev pub pending : FleetState → List Visit
pending x = flat_map (pending_of x) (range 0 (length x.releases))

-- what a session sends when it opens: how many reports were accepted, and every release that has not arrived
abbrev pub greeting_of : List (List PlannedVisit) → FleetState → List (List ℕ)
greeting_of routes x = answer_line (Ready x.count) ∷ release_lines routes (pending x)

-- what it answers to an accepted report: the new releases, and the number of the report
abbrev pub entry_lines : List (List PlannedVisit) → List Visit → FleetState → List (List ℕ)
entry_lines routes releases x' = release_lines routes releases ++ answer_line (Done x'.count) ∷ []
