-- What holds of the fleet of each seed.
use Rattle.std.proofs.Common.{ℕ, Bool, Option, Some, ◌≡◌, ◌+◌, ◌<◌, ◌≤◌, List, sym, ap, ◌∙◌, subst, arith, length}
use Rattle.std.specs.Option.{IfSome}
use Rattle.fleet_base.specs.declared.geometry.Cell.{Cell}
use Rattle.fleet_base.specs.Lists.{row_of}
use Rattle.fleet_base.specs.Grid.{OccupancyGrid}
use Rattle.fleet_base.specs.Plan.{IsAccepted}
use Rattle.rand_core.specs.Pcg32Seed.{pcg32_seed}
use Rattle.rand_pcg.specs.Lcg.{Lcg}
use Rattle.rand_pcg.specs.Pcg.{pcg32_of_seed}
use Rattle.fleet_gen.specs.declared.road.Road.{Road}
use Rattle.fleet_gen.specs.Words.{after, word_of, generator_of}
use Rattle.fleet_gen.specs.Draws.{roads_of, marks_of}
use Rattle.fleet_gen.specs.Departures.{AreRoads, AreEarliest}
use Rattle.fleet_gen.specs.Fleets.{words_of, generated_grid, IsGeneratedPlan}
use Rattle.fleet_gen.proofs.Drawing.{word_after}
use Rattle.fleet_gen.proofs.Drawn.{drawn_roads, length-roads}
use Rattle.fleet_gen.proofs.Accepting.{turns_accepted, arrives}

module _ (seed : ℕ) where
  pub its_roads : AreRoads (generated_grid seed) (roads_of (words_of seed) 32)
  its_roads = drawn_roads (words_of seed) (λ k. words_of seed (63 + k))

  module _ (plan : List (List Cell)) (is : IsGeneratedPlan seed plan) where
    all_roads : length plan ≤ length (roads_of (words_of seed) 32)
    all_roads = let n = is.robots in omega (arith, n, length-roads (words_of seed) 32)

    pub its_plan_accepted : IsAccepted (generated_grid seed) plan
    its_plan_accepted = let n = is.robots in turns_accepted (generated_grid seed) (roads_of (words_of seed) 32) its_roads plan is.earliest all_roads (omega (arith, n))

    pub its_plan_arrives : (i : ℕ) → i < 32 → length (row_of plan i) ≤ 1985
    its_plan_arrives i h = let n = is.robots in arrives (generated_grid seed) (roads_of (words_of seed) 32) its_roads plan is.earliest all_roads i (omega (arith, n, h))

-- the roads and the map that are drawn by the generator of a seed are those of the seed
module _ (seed : ℕ) (start next : Lcg) (began : start ≡ pcg32_of_seed (pcg32_seed 16 seed)) (went : next ≡ after 63 start) where
  same_start : start ≡ generator_of seed
  unfolding generator_of
  same_start = began

  pub same_roads : (roads drawn : List Road) → roads ≡ drawn → drawn ≡ roads_of (word_of start) 32 → roads ≡ roads_of (words_of seed) 32
  same_roads roads drawn e d = e ∙ (d ∙ ap (λ (g : Lcg). roads_of (word_of g) 32) same_start)

  later_words : word_of next ≡ (λ k. words_of seed (63 + k))
  later_words i k = (ap (λ (g : Lcg). word_of g k) went ∙ (word_after start 63 k ∙ ap (λ (g : Lcg). word_of g (63 + k)) same_start)) i

  pub same_marks : (roads : List Road) (marks : List Bool) → roads ≡ roads_of (words_of seed) 32 → marks ≡ marks_of roads (word_of next) 1024 → marks ≡ marks_of (roads_of (words_of seed) 32) (λ k. words_of seed (63 + k)) 1024
  same_marks roads marks e m = m ∙ (ap (λ (rs : List Road). marks_of rs (word_of next) 1024) e ∙ ap (λ (w : ℕ → ℕ). marks_of (roads_of (words_of seed) 32) w 1024) later_words)

  pub same_grid : (roads : List Road) (marks : List Bool) (made : Option OccupancyGrid) (grid : OccupancyGrid) → roads ≡ roads_of (words_of seed) 32 → marks ≡ marks_of roads (word_of next) 1024
      → IfSome made (λ g. g ≡ record { height = 32; width = 32; free = marks }) → made ≡ Some grid → grid ≡ generated_grid seed
  same_grid roads marks made grid e m value is =
      let same : grid ≡ record { height = 32; width = 32; free = marks } = subst (λ (o : Option OccupancyGrid). IfSome o (λ g. g ≡ record { height = 32; width = 32; free = marks })) is value in
      same ∙ ap (λ (free : List Bool). record { height = 32; width = 32; free = free }) (same_marks roads marks e m)

module _ (seed : ℕ) (grid : OccupancyGrid) (roads : List Road) (map : grid ≡ generated_grid seed) (drawn : roads ≡ roads_of (words_of seed) 32) where
  pub ready : AreRoads grid roads
  ready = subst (λ (g : OccupancyGrid). AreRoads g roads) (sym map) (subst (λ (rs : List Road). AreRoads (generated_grid seed) rs) (sym drawn) (its_roads seed))

  pub its_plan : (plan : List (List Cell)) → length plan ≡ length roads → AreEarliest grid roads plan → IsGeneratedPlan seed plan
  its_plan plan n turns = record {
    robots = n ∙ (ap length drawn ∙ length-roads (words_of seed) 32);
    earliest = subst (λ (rs : List Road). AreEarliest (generated_grid seed) rs plan) drawn (subst (λ (g : OccupancyGrid). AreEarliest g roads plan) map turns);
  }
