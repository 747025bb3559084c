-- What the steps of a check say of the whole: counts go on, and each refusal has its cause.
use Rattle.std.proofs.Common.{Err, refl, ℕ, ◌≡◌, ◌<◌, List, [], sym, ◌∙◌, arith, length, Option}
use Rattle.fleet_base.specs.declared.geometry.Cell.{Cell}
use Rattle.fleet_base.specs.declared.geometry.PlannedVisit.{PlannedVisit}
use Rattle.fleet_base.specs.Grid.{OccupancyGrid}
use Rattle.fleet_base.specs.Bytes.{file_lines}
use Rattle.fleet_base.specs.Pairs.{pairs_of}
use Rattle.map_text.specs.declared.fault.MapError.{MapError}
use Rattle.map_text.specs.declared.fault.MapError.TheVariants as map_error
use Rattle.map_text.specs.MapFaults.{FaultIsFirst}
use Rattle.plan_text.specs.declared.fault.PlanError.{PlanError}
use Rattle.plan_text.specs.declared.fault.PlanError.TheVariants as plan_error
use Rattle.plan_text.specs.PlanErrors.{PlanFaultIs}
use Rattle.plan_check.specs.declared.fault.CheckError.{CheckError}
use Rattle.plan_check.specs.declared.fault.CheckError.TheVariants as check_error
use Rattle.plan_check.specs.declared.fault.Unsound.{Unsound as UnsoundFault}
use Rattle.switch_pairs.specs.declared.error.PairsError.{PairsError}
use Rattle.switch_pairs.specs.declared.error.PairsError.TheVariants as pairs_error
use Rattle.plan_text.specs.PlanText.{robot_lines}
use Rattle.plan_check.specs.Faults.{IsFirstFault}
use Rattle.fleet_cli.specs.declared.fault.Paper.TheVariants as paper
use Rattle.fleet_cli.specs.declared.fault.Fault.TheVariants.{Usage, Long, Unread, Map, Plan, Unsound, Pairs, Scen, BadTask, NoPath}
use Rattle.fleet_cli.specs.declared.fault.Refusal.{Refusal}
use Rattle.fleet_cli.specs.declared.fault.Refusal.TheVariants.{Fault, Memory}
use Rattle.fleet_cli.specs.Papers.{Files, IsPaper, IsLong, HasMap, HasPlan, HasRoutes}
use Rattle.fleet_cli.specs.Fetching.{IsUnfetched, HasReason}
use Rattle.fleet_cli.specs.Refusals.{of_map, of_plan, of_check, of_pairs}

-- ---- the causes of the steps

pub unfetched_map : (files : Files) (failed : List ℕ → Type 0) (map_name plan_name : List ℕ) (r : Refusal) → IsUnfetched files failed map_name paper.Map r → HasReason files failed map_name plan_name r
unfetched_map files failed map_name plan_name (Fault Usage) u = absurd u
unfetched_map files failed map_name plan_name (Fault (Long paper.Map n)) u = u.1
unfetched_map files failed map_name plan_name (Fault (Long paper.Plan n)) u = let e : paper.Plan ≡ paper.Map = u.0 in cc
unfetched_map files failed map_name plan_name (Fault (Long paper.Scen n)) u = let e : paper.Scen ≡ paper.Map = u.0 in cc
unfetched_map files failed map_name plan_name (Fault (Unread paper.Map)) u = u.1
unfetched_map files failed map_name plan_name (Fault (Unread paper.Plan)) u = let e : paper.Plan ≡ paper.Map = u.0 in cc
unfetched_map files failed map_name plan_name (Fault (Unread paper.Scen)) u = let e : paper.Scen ≡ paper.Map = u.0 in cc
unfetched_map files failed map_name plan_name (Fault (Map f)) u = absurd u
unfetched_map files failed map_name plan_name (Fault (Plan f)) u = absurd u
unfetched_map files failed map_name plan_name (Fault (Unsound f)) u = absurd u
unfetched_map files failed map_name plan_name (Fault (Pairs n)) u = absurd u
unfetched_map files failed map_name plan_name (Fault (Scen f)) u = absurd u
unfetched_map files failed map_name plan_name (Fault (BadTask i why)) u = absurd u
unfetched_map files failed map_name plan_name (Fault (NoPath i)) u = absurd u
unfetched_map files failed map_name plan_name Memory u = tt

-- the files as they are told later are the files as they were told
abbrev pub later : (files : Files) → (List ℕ → Option (List ℕ)) → Files
later files file = record { tells = files.tells; file = file }

pub same_paper : (files : Files) (file : List ℕ → Option (List ℕ)) (name bytes : List ℕ) → (files.tells → (n : List ℕ) → file n ≡ files.file n) → IsPaper (later files file) name bytes → IsPaper files name bytes
same_paper files file name bytes same p = record { is_file = λ t. sym (same t name) ∙ p.is_file t; small = p.small }

pub same_long : (files : Files) (file : List ℕ → Option (List ℕ)) (name : List ℕ) (n : ℕ) → (files.tells → (m : List ℕ) → file m ≡ files.file m) → IsLong (later files file) name n → IsLong files name n
same_long files file name n same l = record { above = l.above; is_file = λ t. let f = l.is_file t in (f.0, sym (same t name) ∙ f.1, f.2) }

pub unfetched_plan : (files : Files) (file : List ℕ → Option (List ℕ)) (failed now_failed : List ℕ → Type 0) (map_name plan_name : List ℕ) (grid : OccupancyGrid) (r : Refusal) → (files.tells → (n : List ℕ) → file n ≡ files.file n) → ((name : List ℕ) → now_failed name → failed name)
    → HasMap files map_name grid → IsUnfetched (later files file) now_failed plan_name paper.Plan r → HasReason files failed map_name plan_name r
unfetched_plan files file failed now_failed map_name plan_name grid (Fault Usage) same rose m u = absurd u
unfetched_plan files file failed now_failed map_name plan_name grid (Fault (Long paper.Map n)) same rose m u = let e : paper.Map ≡ paper.Plan = u.0 in cc
unfetched_plan files file failed now_failed map_name plan_name grid (Fault (Long paper.Plan n)) same rose m u = ((grid, m), same_long files file plan_name n same u.1)
unfetched_plan files file failed now_failed map_name plan_name grid (Fault (Long paper.Scen n)) same rose m u = let e : paper.Scen ≡ paper.Plan = u.0 in cc
unfetched_plan files file failed now_failed map_name plan_name grid (Fault (Unread paper.Map)) same rose m u = let e : paper.Map ≡ paper.Plan = u.0 in cc
unfetched_plan files file failed now_failed map_name plan_name grid (Fault (Unread paper.Plan)) same rose m u = ((grid, m), rose _ u.1)
unfetched_plan files file failed now_failed map_name plan_name grid (Fault (Unread paper.Scen)) same rose m u = let e : paper.Scen ≡ paper.Plan = u.0 in cc
unfetched_plan files file failed now_failed map_name plan_name grid (Fault (Map f)) same rose m u = absurd u
unfetched_plan files file failed now_failed map_name plan_name grid (Fault (Plan f)) same rose m u = absurd u
unfetched_plan files file failed now_failed map_name plan_name grid (Fault (Unsound f)) same rose m u = absurd u
unfetched_plan files file failed now_failed map_name plan_name grid (Fault (Pairs n)) same rose m u = absurd u
unfetched_plan files file failed now_failed map_name plan_name grid (Fault (Scen f)) same rose m u = absurd u
unfetched_plan files file failed now_failed map_name plan_name grid (Fault (BadTask i why)) same rose m u = absurd u
unfetched_plan files file failed now_failed map_name plan_name grid (Fault (NoPath i)) same rose m u = absurd u
unfetched_plan files file failed now_failed map_name plan_name grid Memory same rose m u = tt

-- what a part refuses is refused of the whole
pub map_reason : (files : Files) (failed : List ℕ → Type 0) (map_name plan_name bytes : List ℕ) (e : MapError) → IsPaper files map_name bytes → FaultIsFirst (file_lines bytes) (Err e) → HasReason files failed map_name plan_name (of_map e)
map_reason files failed map_name plan_name bytes (map_error.Fault f) p first = (bytes, p, first)
map_reason files failed map_name plan_name bytes map_error.Memory p first = tt

pub plan_reason : (files : Files) (failed : List ℕ → Type 0) (map_name plan_name bytes : List ℕ) (grid : OccupancyGrid) (e : PlanError) → HasMap files map_name grid → IsPaper files plan_name bytes → PlanFaultIs (robot_lines bytes) (Err e) → HasReason files failed map_name plan_name (of_plan e)
plan_reason files failed map_name plan_name bytes grid (plan_error.Fault f) m p first = (grid, m, (bytes, p, first))
plan_reason files failed map_name plan_name bytes grid plan_error.Memory m p first = tt

pub check_reason : (files : Files) (failed : List ℕ → Type 0) (map_name plan_name : List ℕ) (grid : OccupancyGrid) (plan : List (List Cell)) (e : CheckError) → HasPlan files map_name plan_name grid plan → ((u : UnsoundFault) → e ≡ check_error.Unsound u → IsFirstFault grid plan u) → HasReason files failed map_name plan_name (of_check e)
check_reason files failed map_name plan_name grid plan (check_error.Unsound u) p first = (grid, plan, p, first u refl)
check_reason files failed map_name plan_name grid plan check_error.Memory p first = tt

pub pairs_reason : (files : Files) (failed : List ℕ → Type 0) (map_name plan_name : List ℕ) (routes : List (List PlannedVisit)) (e : PairsError) → HasRoutes files map_name plan_name routes
    → ((n : ℕ) → e ≡ pairs_error.TooMany n → 1048576 < length (pairs_of routes)) → ((n : ℕ) → e ≡ pairs_error.TooMany n → n ≡ length (pairs_of routes)) → HasReason files failed map_name plan_name (of_pairs e)
pairs_reason files failed map_name plan_name routes (pairs_error.TooMany n) r many is = (routes, r, omega (arith, many n refl, is n refl), is n refl)
pairs_reason files failed map_name plan_name routes pairs_error.Memory r many is = tt
