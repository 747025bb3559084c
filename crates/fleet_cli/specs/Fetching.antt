-- What one step of a command says.
use Rattle.std.specs.Prelude.{ℕ, ◌≡◌, List, length, sum_by}
use Rattle.fleet_base.specs.declared.geometry.PlannedVisit.{PlannedVisit}
use Rattle.fleet_base.specs.Pairs.{pairs_of}
use Rattle.fleet_cli.specs.declared.papers.Sound.{Sound}
use Rattle.fleet_cli.specs.declared.fault.Paper.{Paper}
use Rattle.fleet_cli.specs.declared.fault.Fault.TheVariants.{Long, Unread}
use Rattle.fleet_cli.specs.declared.fault.Refusal.{Refusal}
use Rattle.fleet_cli.specs.declared.fault.Refusal.TheVariants.{Fault, Memory}
use Rattle.fleet_cli.specs.Papers.{Files, IsLong}
use Rattle.fleet_cli.specs.Causes.{IsRefused}
use Rattle.fleet_cli.specs.Planning.{IsUnplanned}

-- so many robots, visits and pairs
pub record Counts (routes : List (List PlannedVisit)) (sound : Sound) : Type 0 where
  pub robots : sound.robots ≡ length routes
  pub visits : sound.visits ≡ sum_by length routes
  pub pairs : sound.pairs ≡ length (pairs_of routes)

-- a file was not fetched: it is too long, the shelf failed at it, or memory was wanting
abbrev pub IsUnfetched : Files → (List ℕ → Type 0) → List ℕ → Paper → Refusal → Type 0
IsUnfetched files failed name which (Fault (Long p n)) = (p ≡ which) × IsLong files name n
IsUnfetched files failed name which (Fault (Unread p)) = (p ≡ which) × failed name
IsUnfetched files failed name which (Fault _) = ⊥
IsUnfetched files failed name which Memory = Unit {0}

-- a refusal has its cause; want of memory is free
abbrev pub HasReason : Files → (List ℕ → Type 0) → List ℕ → List ℕ → Refusal → Type 0
HasReason files failed map_name plan_name (Fault fault) = IsRefused files failed map_name plan_name fault
HasReason files failed map_name plan_name Memory = Unit {0}

-- a refusal of a plan for tasks has its cause
abbrev pub HasTaskReason : Files → (List ℕ → Type 0) → List ℕ → List ℕ → ℕ → ℕ → Refusal → Type 0
HasTaskReason files failed map_name scen_name robots horizon (Fault fault) = IsUnplanned files failed map_name scen_name robots horizon fault
HasTaskReason files failed map_name scen_name robots horizon Memory = Unit {0}
