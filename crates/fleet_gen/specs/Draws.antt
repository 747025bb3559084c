-- What is drawn by words: the roads, and the map.
use Rattle.std.specs.Prelude.{ℕ, zero, suc, ◌+◌, ◌-◌, ◌/◌, ◌%◌, ◌==◌, ◌||◌, not, map, List, Bool, slice_index}
use Rattle.std.specs.List.{swap, list_any, range_with_len}
use Rattle.fleet_gen.specs.declared.road.Road.{Road}
use Rattle.fleet_gen.specs.Roads.{is_on_road}

-- the numbers 0 to 31 after so many exchanges: of place 31, then of place 30 and so on, each with the place up to it that a word gives
unfoldable pub shuffled : (ℕ → ℕ) → ℕ → List ℕ
shuffled words zero = range_with_len 0 32
shuffled words (suc n) = swap (shuffled words n) (31 - n) (words n % (32 - n))

-- the road of a robot: it begins in the row of its number, its column is drawn, and its goal's row is the number at its place after all exchanges
unfoldable pub road_of : (ℕ → ℕ) → ℕ → Road
road_of words i = record { row = i; column = 1 + words (31 + i) % 30; goal = slice_index (shuffled words 31) i }

-- the roads of the first so many robots
unfoldable pub roads_of : (ℕ → ℕ) → ℕ → List Road
roads_of words n = map (road_of words) (range_with_len 0 n)

-- whether a cell stays free, counted row by row, where there is a word for each cell: it is on a road, or its word is no multiple of ten
unfoldable pub stays_free : List Road → (ℕ → ℕ) → ℕ → Bool
stays_free roads words k = list_any (λ road. is_on_road road (record { row = k / 32; col = k % 32 })) roads || not (words k % 10 == 0)

-- the marks of the first so many cells
unfoldable pub marks_of : List Road → (ℕ → ℕ) → ℕ → List Bool
marks_of roads words n = map (stays_free roads words) (range_with_len 0 n)
