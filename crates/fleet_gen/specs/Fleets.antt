-- Generated fleets: the map and the plan of a seed.
use Rattle.std.specs.Prelude.{ℕ, ◌≡◌, ◌+◌, List, length}
use Rattle.fleet_base.specs.declared.geometry.Cell.{Cell}
use Rattle.fleet_base.specs.Grid.{OccupancyGrid}
use Rattle.fleet_gen.specs.Words.{word_of, generator_of}
use Rattle.fleet_gen.specs.Draws.{roads_of, marks_of}
use Rattle.fleet_gen.specs.Departures.{AreEarliest}

-- the words of a seed
abbrev pub words_of : ℕ → ℕ → ℕ
words_of seed = word_of (generator_of seed)

-- the map of a seed: 32 rows and 32 columns, with the words behind those of the roads
abbrev pub generated_grid : ℕ → OccupancyGrid
generated_grid seed = record { height = 32; width = 32; free = marks_of (roads_of (words_of seed) 32) (λ k. words_of seed (63 + k)) 1024 }

-- the plan of a seed: 32 robots, each of which departs on its road as early as it may beside those before it
pub record IsGeneratedPlan (seed : ℕ) (plan : List (List Cell)) : Type 0 where
  pub robots : length plan ≡ 32
  pub earliest : AreEarliest (generated_grid seed) (roads_of (words_of seed) 32) plan
