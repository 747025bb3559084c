-- A seed has one plan, and a robot may wait for all before it.
use Rattle.std.proofs.Common.{ℕ, suc, zero, ◌≡◌, ◌*◌, ◌<◌, ◌≤◌, List, [], ◌∷◌, ◌++◌, sym, ap, ◌∙◌, subst, arith, length, take}
use Rattle.std.proofs.lemmas.List.{take_all}
use Rattle.std.proofs.Math.Seq.{take-suc}
use Rattle.fleet_base.specs.declared.geometry.Cell.{Cell}
use Rattle.fleet_base.specs.Lists.{row_of}
use Rattle.fleet_base.specs.Grid.{OccupancyGrid}
use Rattle.fleet_base.specs.Plan.{IsSound}
use Rattle.fleet_gen.specs.declared.road.Road.{Road}
use Rattle.fleet_gen.specs.Roads.{path_of}
use Rattle.fleet_gen.specs.Draws.{roads_of}
use Rattle.fleet_gen.specs.Departures.{road_at, IsLeastWait, AreEarliest}
use Rattle.fleet_gen.specs.Fleets.{words_of, generated_grid, IsGeneratedPlan}
use Rattle.fleet_gen.proofs.Ways.{sound_late}
use Rattle.fleet_gen.proofs.Turns.{all_sound, next_beside}
use Rattle.fleet_gen.proofs.Drawn.{length-roads}
use Rattle.fleet_gen.proofs.Generated.{its_roads}

-- a least waiting is one
one_wait : (grid : OccupancyGrid) (fixed : List (List Cell)) (road : Road) (v w : ℕ) → IsLeastWait grid fixed road v → IsLeastWait grid fixed road w → v ≡ w
one_wait grid fixed road v w p q = let a = p.least w q.sound in let b = q.least v p.sound in omega (arith, a, b)

module _ (grid : OccupancyGrid) (roads : List Road) (plan other : List (List Cell)) (turns : AreEarliest grid roads plan) (turns' : AreEarliest grid roads other) where
  same_front : (k : ℕ) → k ≤ length plan → k ≤ length other → take k plan ≡ take k other
  same_front zero h h' = λ i. []
  same_front (suc k) h h' =
      let e = turns k h in
      let f = turns' k h' in
      let before = same_front k (omega (arith, h)) (omega (arith, h')) in
      let l = subst (λ (p : List (List Cell)). IsLeastWait grid p (road_at roads k) e.wait) before e.least in
      let w = one_wait grid (take k other) (road_at roads k) e.wait f.wait l f.least in
      let row : row_of plan k ≡ row_of other k = e.path ∙ (ap (path_of (road_at roads k)) w ∙ sym f.path) in
      take-suc plan k [] h ∙ (ap (λ (p : List (List Cell)). p ++ row_of plan k ∷ []) before ∙ (ap (λ (r : List Cell). take k other ++ r ∷ []) row ∙ sym (take-suc other k [] h')))

  pub one_plan : length plan ≡ length other → plan ≡ other
  one_plan n =
      sym (take_all (length plan) plan (omega arith))
      ∙ (same_front (length plan) (omega arith) (omega (arith, n)) ∙ take_all (length plan) other (omega (arith, n)))

pub one_plan_of_seed : (seed : ℕ) (plan other : List (List Cell)) → IsGeneratedPlan seed plan → IsGeneratedPlan seed other → plan ≡ other
one_plan_of_seed seed plan other is also = one_plan (generated_grid seed) (roads_of (words_of seed) 32) plan other is.earliest also.earliest (is.robots ∙ sym also.robots)

pub may_wait_for_all : (seed : ℕ) (plan : List (List Cell)) → length plan < 32 → AreEarliest (generated_grid seed) (roads_of (words_of seed) 32) plan
    → IsSound (generated_grid seed) (plan ++ path_of (road_at (roads_of (words_of seed) 32) (length plan)) (62 * length plan) ∷ [])
may_wait_for_all seed plan h turns =
    let roads = roads_of (words_of seed) 32 in
    let ok = its_roads seed in
    let there : length plan < length (roads_of (words_of seed) 32) = omega (arith, h, length-roads (words_of seed) 32) in
    let beside = next_beside (generated_grid seed) (roads_of (words_of seed) 32) ok plan turns (length plan) (λ i. length plan) there in
    sound_late (generated_grid seed) plan (road_at (roads_of (words_of seed) 32) (length plan)) (62 * length plan) (ok.lie (length plan) there) beside (62 * length plan)
    (all_sound (generated_grid seed) (roads_of (words_of seed) 32) ok plan turns) (ok.free (length plan) there) (omega arith)
