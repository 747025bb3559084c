-- A sound plan on a grid that is not too large has a text.
use Rattle.std.proofs.Common.{ℕ, suc, ◌≡◌, ◌-◌, ◌<◌, ◌≤◌, List, [], ◌∷◌, ◌++◌, sym, ap, ◌∙◌, subst, arith, length, get_or, min, refl, Some}
use Rattle.std.specs.Prelude.{slice_get, IsTrue, Result, Ok, Err, IfOk}
use Rattle.std.specs.List.{AllByRecursion}
use Rattle.std.proofs.lemmas.List.{get_or_default}
use Rattle.fleet_base.specs.declared.geometry.Cell.{Cell}
use Rattle.fleet_base.specs.Lists.{row_of}
use Rattle.fleet_base.specs.Grid.{OccupancyGrid, is_free}
use Rattle.fleet_base.specs.Plan.{IsSound, IsAccepted, cell_at, no_cell}
use Rattle.map_text.specs.declared.scenario.Task.{Task}
use Rattle.map_text.specs.MapText.{IsMapText}
use Rattle.plan_text.specs.PlanText.{IsNarrow, IsWritable}
use Rattle.path_planner.specs.Planning.{IsPlannedInTurn}
use Rattle.path_planner.proofs.Around.{free_on_grid}

-- what holds at each place holds of all
each_holds : {X : Type 0} (P : X → Type 0) (xs : List X) → ((k : ℕ) (d : X) → k < length xs → P (get_or xs k d)) → AllByRecursion P xs
each_holds P [] all = tt
each_holds P (x ∷ xs) all = (all 0 x (omega arith), each_holds P xs (λ k d h. all (suc k) d (omega (arith, h))))

-- and of what stands behind others
pub holds_behind : {X : Type 0} (P : X → Type 0) (above : List X) (x : X) (below : List X) → AllByRecursion P (above ++ x ∷ below) → P x
holds_behind P [] x below all = all.0
holds_behind P (y ∷ above) x below all = holds_behind P above x below all.1

-- a listed cell is that of its tick
listed_at : (plan : List (List Cell)) (i t : ℕ) (d : List Cell) (c : Cell) → i < length plan → t < length (get_or plan i d) → get_or (get_or plan i d) t c ≡ cell_at plan i t
listed_at plan i t d c hi ht =
    let row : get_or plan i d ≡ row_of plan i = get_or_default plan i d [] hi in
    let there : t < length (row_of plan i) = subst (λ (r : List Cell). t < length r) row ht in
    let tick : min t (length (row_of plan i) - 1) ≡ t = omega (arith, there) in
    ap (λ (r : List Cell). get_or r t c) row ∙ get_or_default (row_of plan i) t c no_cell there ∙ ap (λ (k : ℕ). get_or (row_of plan i) k no_cell) (sym tick)

narrow_cell : (grid : OccupancyGrid) (c : Cell) → grid.height ≤ 4096 → grid.width ≤ 4096 → IsTrue (is_free grid c) → IsNarrow c
narrow_cell grid c hh hw free = let on = free_on_grid grid c free in (omega (arith, on.0, hh), omega (arith, on.1, hw))

sound_writable : (grid : OccupancyGrid) (plan : List (List Cell)) → grid.height ≤ 4096 → grid.width ≤ 4096 → IsSound grid plan → ((i : ℕ) → i < length plan → 1 ≤ length (row_of plan i)) → AllByRecursion IsWritable plan
sound_writable grid plan hh hw sound some = each_holds IsWritable plan (λ i d hi. record {
  some = subst (λ (r : List Cell). 1 ≤ length r) (sym (get_or_default plan i d [] hi)) (some i hi);
  narrow = each_holds IsNarrow (get_or plan i d) (λ t c ht. subst IsNarrow (sym (listed_at plan i t d c hi ht)) (narrow_cell grid (cell_at plan i t) hh hw (sound.free i t hi)));
})

-- an accepted plan
pub accepted_writable : (grid : OccupancyGrid) (plan : List (List Cell)) → grid.height ≤ 4096 → grid.width ≤ 4096 → IsAccepted grid plan → AllByRecursion IsWritable plan
accepted_writable grid plan hh hw a = sound_writable grid plan hh hw a.sound (λ i hi. (a.limits.paths i [] hi).0)

begun : (path : List Cell) (c : Cell) → slice_get path 0 ≡ Some c → 1 ≤ length path
begun [] c e = cc
begun (x ∷ path) c e = omega arith

-- a plan in turn on a map that was read
pub planned_writable : (text : List ℕ) (grid : OccupancyGrid) (horizon : ℕ) (tasks : List Task) (plan : List (List Cell)) → IsMapText text grid → IsSound grid plan → IsPlannedInTurn grid horizon tasks plan → AllByRecursion IsWritable plan
planned_writable text grid horizon tasks plan is sound planned =
    sound_writable grid plan (((is.lines 1).height refl).1.1) (((is.lines 2).width refl).1.1) sound (λ i hi. begun (row_of plan i) _ (planned.chosen i hi).candidate.start)

-- what is so of a result is so of it in other words
pub if_ok_so : {T E : Type 0} {P Q : T → Type 0} (r : Result T E) → ((x : T) → P x → Q x) → IfOk r P → IfOk r Q
if_ok_so (Ok x) f p = f x p
if_ok_so (Err e) f p = tt
