-- The visits of a plan stand by their robots.
use Rattle.std.proofs.Common.{ℕ, suc, zero, ◌≡◌, ◌+◌, ◌-◌, ◌≤◌, ◌⊎◌, List, [], ◌∷◌, ◌++◌, Bool, true, false, not, refl, sym, ap, ◌∙◌, subst, inl, inr, arith, length, get_or, drop, leb, ltb}
use Rattle.std.specs.Prelude.{Contains, filter, flat_map}
use Rattle.std.specs.List.{range_with_len}
use Rattle.std.specs.Ordering.{is_lt}
use Rattle.std.specs.List.Sorted.{IsNonDecreasingBy, IsPartitionPoint, IsPermutation, IsSortedByKey, IsStableByKey, ties}
use Rattle.std.proofs.lemmas.Bool.{lt-ltb, le-ltb, leb-true, leb-false}
use Rattle.std.proofs.lemmas.List.Elements.{Contains-append_cases}
use Rattle.std.proofs.lemmas.List.Sorted.{length_permutation}
use Rattle.std.proofs.lemmas.List.Kept.{IsNonDecreasingBy-filter}
use Rattle.fleet_base.specs.declared.geometry.Cell.{Cell}
use Rattle.fleet_base.specs.declared.geometry.PlannedVisit.{PlannedVisit}
use Rattle.fleet_base.specs.Lists.{range, row_of}
use Rattle.fleet_base.specs.Plan.{AreRoutes}
use Rattle.fleet_base.proofs.Members.{head_in, tail_in, from_flat_map}
use Rattle.fleet_base.proofs.Sorting.{InOrder, here_in}
use Rattle.fleet_base.proofs.AllVisits.{from_map}
use Rattle.fleet_base.specs.Grid.{cell_order}
use Rattle.switch_pairs.specs.declared.stops.Stop.{Stop}
use Rattle.switch_pairs.specs.Stops.{stop_of, stops_of, all_stops, is_at, is_above, AreStops}
use Rattle.switch_pairs.proofs.Classes.{from_run}
use Rattle.switch_pairs.proofs.Lists.{filter_alike}
use Rattle.switch_pairs.proofs.Cells.{tied_cells}
use Rattle.switch_pairs.proofs.Counting.{few_stops}
use Rattle.switch_pairs.proofs.Points.{after_point}

-- a list in order rises from place to place
rises : {X : Type 0} (n : X → ℕ) (xs : List X) → InOrder n xs → IsNonDecreasingBy n xs
rises n [] s i j d le lt = absurd (omega (arith, lt))
rises n (x ∷ xs) s zero zero d le lt = omega arith
rises n (x ∷ xs) s zero (suc j) d le lt = s.0 (get_or xs j d) (here_in xs j d (omega (arith, lt)))
rises n (x ∷ xs) s (suc i) zero d le lt = absurd (omega (arith, le))
rises n (x ∷ xs) s (suc i) (suc j) d le lt = rises n xs s.1 i j d (omega (arith, le)) (omega (arith, lt))

alike_in_order : {X : Type 0} (n : X → ℕ) (v : ℕ) (xs : List X) → ((x : X) → Contains xs x → n x ≡ v) → InOrder n xs
alike_in_order n v [] h = tt
alike_in_order n v (x ∷ xs) h = (λ y k. omega (arith, h x (head_in x xs), h y (tail_in x xs y k)), alike_in_order n v xs (λ y k. h y (tail_in x xs y k)))

joined_in_order : {X : Type 0} (n : X → ℕ) (xs ys : List X) → InOrder n xs → InOrder n ys → ((x y : X) → Contains xs x → Contains ys y → n x ≤ n y) → InOrder n (xs ++ ys)
joined_in_order n [] ys s t h = t
joined_in_order {X} n (x ∷ xs) ys s t h = (λ y k. go y (Contains-append_cases xs ys y k), joined_in_order n xs ys s.1 t (λ a b k m. h a b (tail_in x xs a k) m))
  where
    go : (y : X) → Contains xs y ⊎ Contains ys y → n x ≤ n y
    go y (inl k) = s.0 y k
    go y (inr k) = h x y (head_in x xs) k

-- the robot of a visit
abbrev robot_of : Stop → ℕ
robot_of s = s.visit.robot

pub of_robot : (routes : List (List PlannedVisit)) (i : ℕ) (s : Stop) → Contains (stops_of routes i) s → s.visit.robot ≡ i
of_robot routes i s k = let f = from_map (λ (m : ℕ). stop_of routes (record { robot = i; index = m })) (range 0 (length (row_of routes i))) s k in sym (ap robot_of f.2)

stops_in_order : (routes : List (List PlannedVisit)) (n a : ℕ) → InOrder robot_of (flat_map (stops_of routes) (range_with_len a n))
stops_in_order routes zero a = tt
stops_in_order routes (suc n) a =
    joined_in_order robot_of (stops_of routes a) (flat_map (stops_of routes) (range_with_len (a + 1) n)) (alike_in_order robot_of a (stops_of routes a) (of_robot routes a)) (stops_in_order routes n (a + 1)) apart
  where
    apart : (s t : Stop) → Contains (stops_of routes a) s → Contains (flat_map (stops_of routes) (range_with_len (a + 1) n)) t → robot_of s ≤ robot_of t
    apart s t k m =
        let g = from_flat_map (stops_of routes) (range_with_len (a + 1) n) t m in
        let one : robot_of s ≡ a = of_robot routes a s k in
        let two : robot_of t ≡ g.0 = of_robot routes g.0 t g.2 in
        let up : a + 1 ≤ g.0 = from_run (a + 1) n g.0 g.1 in
        omega (arith, one, two, up)

-- the visits of the routes at one cell stand by their robots
pub robots_rise : (routes : List (List PlannedVisit)) (c : Cell) → IsNonDecreasingBy (λ s. s.visit.robot) (filter (is_at c) (all_stops routes))
robots_rise routes c = IsNonDecreasingBy-filter robot_of (is_at c) (all_stops routes) (rises robot_of (all_stops routes) (stops_in_order routes (length routes - 0) 0))

not_le : (m n : ℕ) → not (leb m n) ≡ ltb n m
not_le m n = go (leb m n) refl
  where
    go : (b : Bool) → leb m n ≡ b → not b ≡ ltb n m
    go true e = sym (le-ltb n m (leb-true m n e))
    go false e = sym (lt-ltb n m (leb-false m n e))

-- from the first higher robot on stand the visits of higher robots
pub above_is : (i : ℕ) (here : List Stop) (a : ℕ) → IsPartitionPoint (λ s. leb s.visit.robot i ≡ true) (λ s. leb s.visit.robot i ≡ false) here a → drop a here ≡ filter (is_above i) here
above_is i here a p = after_point (λ s. leb s.visit.robot i) here a p.0 p.1 ∙ filter_alike _ (is_above i) here (λ s. not_le s.visit.robot i)

-- a visit at a cell
abbrev at_cell : Cell → Stop
at_cell c = record { visit = record { robot = 0; index = 0 }; cell = c; tick = 0 }

-- what a stable sort by the cells makes of all visits
pub are_stops : (routes : List (List PlannedVisit)) (found sorted : List Stop) → AreRoutes routes → found ≡ all_stops routes → IsPermutation found sorted
    → IsSortedByKey (λ s. s.cell) cell_order sorted → IsStableByKey (λ s. s.cell) cell_order found sorted → AreStops routes sorted
are_stops routes found sorted plan is moved up stable =
    record {
      by_cell = record { sorted = up; robots = λ c. subst (IsNonDecreasingBy robot_of) (sym (same c)) (robots_rise routes c) };
      few = omega (arith, length_permutation found sorted moved, ap length is, few_stops routes plan);
      each = same;
    }
  where
    same : (c : Cell) → filter (is_at c) sorted ≡ filter (is_at c) (all_stops routes)
    same c =
        filter_alike (is_at c) (ties (λ (s t : Stop). is_lt (cell_order s.cell t.cell)) (at_cell c)) sorted (λ s. sym (tied_cells c s.cell))
        ∙ stable (at_cell c)
        ∙ filter_alike (ties (λ (s t : Stop). is_lt (cell_order s.cell t.cell)) (at_cell c)) (is_at c) found (λ s. tied_cells c s.cell)
        ∙ ap (filter (is_at c)) is
