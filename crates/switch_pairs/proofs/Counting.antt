-- How many elements a list has that is joined over two lists, in either order.
use Rattle.std.proofs.Common.{ℕ, suc, zero, ◌≡◌, ◌+◌, ◌-◌, ◌<◌, ◌≤◌, List, [], ◌∷◌, ◌++◌, refl, sym, ap, ◌∙◌, arith, length, take, length-append, take_all}
use Rattle.std.specs.Prelude.{flat_map, filter, sum_by}
use Rattle.std.proofs.lemmas.List.FromFn.{length-map-range_with_len}
use Rattle.std.proofs.lemmas.List.Sums.{sum_by_more, get_or-le-sum_by, length-filter, count_by-le-length}
use Rattle.fleet_base.specs.declared.geometry.PlannedVisit.{PlannedVisit}
use Rattle.fleet_base.specs.Lists.{range, row_of}
use Rattle.fleet_base.specs.Pairs.{pairs_of, pairs_between, pairs_with}
use Rattle.fleet_base.specs.Plan.{AreRoutes, visits_of}
use Rattle.switch_pairs.specs.declared.stops.Stop.{Stop}
use Rattle.switch_pairs.specs.Stops.{stop_of, stops_of, all_stops, is_at, is_above, higher_stops}
use Rattle.switch_pairs.specs.Found.{pairs_by_visit, pairs_of_lower}
use Rattle.switch_pairs.proofs.Lists.{flat_map_none}
use Rattle.switch_pairs.proofs.Ranges.{flat_map_more}

apart : {Y Z : Type 0} (g h : Y → List Z) (ys : List Y) → length (flat_map (λ y. g y ++ h y) ys) ≡ length (flat_map g ys) + length (flat_map h ys)
apart g h [] = refl
apart {Y} {Z} g h (y ∷ ys) =
    let one = length-append (g y ++ h y) (flat_map (λ z. g z ++ h z) ys) in
    let two = length-append (g y) (h y) in
    let three = length-append (g y) (flat_map g ys) in
    let four = length-append (h y) (flat_map h ys) in
    omega (arith, one, two, three, four, apart g h ys)

-- joined over the one list, then the other, it is as long
pub length_either_way : {X Y Z : Type 0} (f : X → Y → List Z) (xs : List X) (ys : List Y) → length (flat_map (λ x. flat_map (f x) ys) xs) ≡ length (flat_map (λ y. flat_map (λ x. f x y) xs) ys)
length_either_way {X} {Y} {Z} f [] ys = let none : flat_map (λ y. flat_map (λ x. f x y) []) ys ≡ [] = flat_map_none (λ y. flat_map (λ (x : X). f x y) []) ys (λ y k. refl) in sym (ap length none)
length_either_way f (x ∷ xs) ys =
    let one = length-append (flat_map (f x) ys) (flat_map (λ z. flat_map (f z) ys) xs) in
    let two = apart (f x) (λ y. flat_map (λ z. f z y) xs) ys in
    omega (arith, one, two, length_either_way f xs ys)

-- a robot's pairs are as many in either order
pub as_many : (routes : List (List PlannedVisit)) (i : ℕ) → length (pairs_by_visit routes i) ≡ length (pairs_of_lower routes i)
unfolding pairs_between
as_many routes i = length_either_way (λ k j. pairs_with routes (record { robot = i; index = k }) j) (range 0 (length (row_of routes i))) (range (i + 1) (length routes))

-- all pairs are those of each robot
pub pairs_are : (routes : List (List PlannedVisit)) → pairs_of routes ≡ flat_map (pairs_of_lower routes) (range 0 (length routes))
unfolding pairs_of
pairs_are routes = refl

-- the pairs of one robot more
pub one_robot_more : (routes : List (List PlannedVisit)) (n : ℕ) → flat_map (pairs_of_lower routes) (range 0 (n + 1)) ≡ flat_map (pairs_of_lower routes) (range 0 n) ++ pairs_of_lower routes n
one_robot_more routes n = flat_map_more (pairs_of_lower routes) n

pub count_more : (routes : List (List PlannedVisit)) (n : ℕ) → length (flat_map (pairs_of_lower routes) (range 0 (n + 1))) ≡ length (flat_map (pairs_of_lower routes) (range 0 n)) + length (pairs_by_visit routes n)
count_more routes n = ap length (one_robot_more routes n) ∙ length-append (flat_map (pairs_of_lower routes) (range 0 n)) (pairs_of_lower routes n) ∙ sym (ap (λ m. length (flat_map (pairs_of_lower routes) (range 0 n)) + m) (as_many routes n))

-- the visits of the first robots are as many as these robots have
stops_below : (routes : List (List PlannedVisit)) (n : ℕ) → n ≤ length routes → length (flat_map (stops_of routes) (range 0 n)) ≡ sum_by length (take n routes)
stops_below routes zero h = refl
stops_below routes (suc n) h =
    let lt : n < length routes = omega (arith, h) in
    let low : n ≤ length routes = omega (arith, h) in
    let e : suc n ≡ n + 1 = omega arith in
    let more = ap length (flat_map_more (stops_of routes) n) in
    let both = length-append (flat_map (stops_of routes) (range 0 n)) (stops_of routes n) in
    let here : length (stops_of routes n) ≡ length (row_of routes n) = length-map-range_with_len (λ (k : ℕ). stop_of routes (record { robot = n; index = k })) 0 (length (row_of routes n) - 0) ∙ omega arith in
    let sum = sum_by_more length routes n [] lt in
    let left : length (flat_map (stops_of routes) (range 0 (suc n))) ≡ length (flat_map (stops_of routes) (range 0 (n + 1))) = ap (λ m. length (flat_map (stops_of routes) (range 0 m))) e in
    let right : sum_by length (take (suc n) routes) ≡ sum_by length (take (n + 1) routes) = ap (λ m. sum_by length (take m routes)) e in
    omega (arith, left, right, more, both, here, sum, stops_below routes n low)

-- all visits of a plan are at most 65,536
pub few_stops : (routes : List (List PlannedVisit)) → AreRoutes routes → length (all_stops routes) ≤ 65536
few_stops routes a =
    let low : length routes ≤ length routes = omega arith in
    let e = stops_below routes (length routes) low in
    let all : sum_by length (take (length routes) routes) ≡ sum_by length (visits_of a.plan) = ap (sum_by length) (take_all (length routes) routes low ∙ a.visits) in
    omega (arith, e, all, a.accepted.limits.visits)

-- each robot has at most 65,536
pub few_visits : (routes : List (List PlannedVisit)) → AreRoutes routes → (i : ℕ) → i < length routes → length (row_of routes i) ≤ 65536
few_visits routes a i lt =
    let one : length (row_of routes i) ≤ sum_by length routes = get_or-le-sum_by length routes i [] lt in
    let all : sum_by length routes ≡ sum_by length (visits_of a.plan) = ap (sum_by length) a.visits in
    omega (arith, one, all, a.accepted.limits.visits)

-- the visits of higher robots at a cell are some of them
pub few_higher : (stops : List Stop) (s : Stop) → length stops ≤ 65536 → length (higher_stops stops s) ≤ 65536
few_higher stops s few =
    let one = length-filter (is_above s.visit.robot) (filter (is_at s.cell) stops) in
    let two = count_by-le-length (is_above s.visit.robot) (filter (is_at s.cell) stops) in
    let three = length-filter (is_at s.cell) stops in
    let four = count_by-le-length (is_at s.cell) stops in
    omega (arith, one, two, three, four, few)
