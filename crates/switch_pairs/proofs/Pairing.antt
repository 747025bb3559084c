-- The visits of higher robots at a visit's cell make its pairs, and these, sorted by the higher robot, are in the order of the pairs.
use Rattle.std.proofs.Common.{ℕ, ◌≡◌, ◌≢◌, ◌+◌, ◌<◌, ◌≤◌, List, [], ◌∷◌, ◌++◌, Bool, true, false, cond, refl, sym, ap, ◌∙◌, subst, arith, length}
use Rattle.std.specs.Prelude.{Contains, filter, flat_map, map, ◌&&◌, ◌==◌}
use Rattle.std.specs.Ordering.{is_lt, nat_cmp}
use Rattle.std.specs.List.Sorted.{IsNonDecreasingBy, IsPermutation, IsStableByKey, ties}
use Rattle.std.proofs.lemmas.Bool.{lt-ltb, le-ltb, eq-eqb, ne_eqb}
use Rattle.std.proofs.lemmas.List.Sorted.{Contains-permutation, IsPermutation-sym}
use Rattle.fleet_base.specs.declared.geometry.Visit.{Visit}
use Rattle.fleet_base.specs.declared.geometry.PlannedVisit.{PlannedVisit}
use Rattle.fleet_base.specs.declared.order.Pair.{Pair}
use Rattle.fleet_base.specs.declared.order.Side.TheVariants.{Lower}
use Rattle.fleet_base.specs.Lists.{range, row_of}
use Rattle.fleet_base.specs.Grid.{same_cell}
use Rattle.fleet_base.specs.Plan.{cell_of}
use Rattle.fleet_base.specs.Pairs.{pairs_between, pairs_with, pair_of}
use Rattle.fleet_base.proofs.Members.{in_one, in_none, from_flat_map, from_range}
use Rattle.fleet_base.proofs.PairLaws.{the_pair}
use Rattle.switch_pairs.specs.declared.stops.Stop.{Stop}
use Rattle.switch_pairs.specs.Stops.{stop_of, stops_of, all_stops, is_at, is_above, higher_stops, AreStops}
use Rattle.switch_pairs.specs.Found.{pair_of_stops, pairs_of_visit, pairs_by_visit, pairs_of_lower}
use Rattle.switch_pairs.proofs.Lists.{filter_alike, filter_none, filter_all, filter_both, filter_flat_map, map_flat_map, flat_map_alike}
use Rattle.switch_pairs.proofs.Ranges.{flat_map_from, flat_map_one}
use Rattle.switch_pairs.proofs.Cells.{tied_numbers}
use Rattle.switch_pairs.proofs.Classes.{class, classes, in_order}
use Rattle.switch_pairs.proofs.Robots.{of_robot}

abbrev visit : ℕ → ℕ → Visit
visit i k = record { robot = i; index = k }

and_true : (b : Bool) → (b && true) ≡ b
and_true true = refl
and_true false = refl

and_false : (b : Bool) → (b && false) ≡ false
and_false true = refl
and_false false = refl

module _ (routes : List (List PlannedVisit)) (i k : ℕ) where
  -- at the cell of a visit, and of a higher robot
  abbrev pairs_up : Stop → Bool
  pairs_up t = is_at (cell_of routes (visit i k)) t && is_above i t

  none_of_lower : (r : ℕ) → r < i + 1 → map (pair_of_stops (stop_of routes (visit i k))) (filter pairs_up (stops_of routes r)) ≡ []
  none_of_lower r lt = ap (map (pair_of_stops (stop_of routes (visit i k)))) (filter_none pairs_up (stops_of routes r) fails)
    where
      fails : (t : Stop) → Contains (stops_of routes r) t → pairs_up t ≡ false
      fails t h =
          let e : t.visit.robot ≡ r = of_robot routes r t h in
          let le : t.visit.robot ≤ i = omega (arith, e, lt) in
          ap (λ (b : Bool). is_at (cell_of routes (visit i k)) t && b) (le-ltb i t.visit.robot le) ∙ and_false (is_at (cell_of routes (visit i k)) t)

  -- the visits of a robot among these
  abbrev kept : ℕ → List ℕ → List Stop
  kept r ms = filter pairs_up (map (λ m. stop_of routes (visit r m)) ms)

  of_higher : (r : ℕ) → i < r → (ms : List ℕ) → map (pair_of_stops (stop_of routes (visit i k))) (filter pairs_up (map (λ m. stop_of routes (visit r m)) ms)) ≡ flat_map (λ m. pair_of routes (visit i k) (visit r m)) ms
  unfolding pair_of
  of_higher r lt [] = refl
  of_higher r lt (m ∷ ms) =
      let test : pairs_up (stop_of routes (visit r m)) ≡ same_cell (cell_of routes (visit i k)) (cell_of routes (visit r m)) =
      ap (λ (b : Bool). same_cell (cell_of routes (visit i k)) (cell_of routes (visit r m)) && b) (lt-ltb i r lt) ∙ and_true (same_cell (cell_of routes (visit i k)) (cell_of routes (visit r m))) in
      ap (λ (b : Bool). map (pair_of_stops (stop_of routes (visit i k))) (cond b (stop_of routes (visit r m) ∷ kept r ms) (kept r ms))) test ∙ go (same_cell (cell_of routes (visit i k)) (cell_of routes (visit r m))) (of_higher r lt ms)
    where
      go : (b : Bool) → map (pair_of_stops (stop_of routes (visit i k))) (kept r ms) ≡ flat_map (λ m. pair_of routes (visit i k) (visit r m)) ms
          → map (pair_of_stops (stop_of routes (visit i k))) (cond b (stop_of routes (visit r m) ∷ kept r ms) (kept r ms))
          ≡ cond b (the_pair routes (visit i k) (visit r m) ∷ []) [] ++ flat_map (λ m. pair_of routes (visit i k) (visit r m)) ms
      go true e = ap (λ (l : List Pair). the_pair routes (visit i k) (visit r m) ∷ l) e
      go false e = e

  with_higher : (r : ℕ) → i < r → map (pair_of_stops (stop_of routes (visit i k))) (filter pairs_up (stops_of routes r)) ≡ pairs_with routes (visit i k) r
  unfolding pairs_with
  with_higher r lt = of_higher r lt (range 0 (length (row_of routes r)))

  -- the pairs of a visit are those with the visits of higher robots at its cell
  pub visit_pairs : (stops : List Stop) → AreStops routes stops → i < length routes → map (pair_of_stops (stop_of routes (visit i k))) (higher_stops stops (stop_of routes (visit i k))) ≡ pairs_of_visit routes i k
  visit_pairs stops a there =
      ap (λ (l : List Stop). map (pair_of_stops (stop_of routes (visit i k))) (filter (is_above i) l)) (a.each (cell_of routes (visit i k)))
      ∙ ap (map (pair_of_stops (stop_of routes (visit i k)))) (filter_both (is_at (cell_of routes (visit i k))) (is_above i) (all_stops routes) ∙ filter_flat_map pairs_up (stops_of routes) (range 0 (length routes)))
      ∙ map_flat_map (pair_of_stops (stop_of routes (visit i k))) (λ r. filter pairs_up (stops_of routes r)) (range 0 (length routes))
      ∙ flat_map_from (λ r. map (pair_of_stops (stop_of routes (visit i k))) (filter pairs_up (stops_of routes r))) 0 (i + 1) (length routes) (omega arith) (omega (arith, there)) none_of_lower
      ∙ flat_map_alike (λ r. map (pair_of_stops (stop_of routes (visit i k))) (filter pairs_up (stops_of routes r))) (pairs_with routes (visit i k)) (range (i + 1) (length routes)) above
    where
      above : (r : ℕ) → Contains (range (i + 1) (length routes)) r → map (pair_of_stops (stop_of routes (visit i k))) (filter pairs_up (stops_of routes r)) ≡ pairs_with routes (visit i k) r
      above r h = let lt : i < r = omega (arith, (from_range (i + 1) (length routes) r h).0) in with_higher r lt

-- so are those of what is found there
pub pairs_found : (routes : List (List PlannedVisit)) (i k : ℕ) (stops : List Stop) (s : Stop) (found : List Stop) → AreStops routes stops → i < length routes
    → s ≡ stop_of routes (visit i k) → found ≡ higher_stops stops s → map (pair_of_stops s) found ≡ pairs_of_visit routes i k
pairs_found routes i k stops s found a there is e =
    ap (map (pair_of_stops s)) e ∙ ap (λ (t : Stop). map (pair_of_stops t) (higher_stops stops t)) is ∙ visit_pairs routes i k stops a there

-- the higher visit of a pair of two visits
higher_of_pair : (routes : List (List PlannedVisit)) (u v : Visit) (p : Pair) → Contains (pair_of routes u v) p → p.higher ≡ v
unfolding pair_of
higher_of_pair routes u v p h = go (same_cell (cell_of routes u) (cell_of routes v)) h
  where
    go : (b : Bool) → Contains (cond b (the_pair routes u v ∷ []) []) p → p.higher ≡ v
    go true k = sym (ap (λ (q : Pair). q.higher) (in_one (the_pair routes u v) p k))
    go false k = absurd (in_none p k)

higher_is : (routes : List (List PlannedVisit)) (u : Visit) (r : ℕ) (p : Pair) → Contains (pairs_with routes u r) p → p.higher.robot ≡ r
unfolding pairs_with
higher_is routes u r p h =
    let f = from_flat_map (λ m. pair_of routes u (visit r m)) (range 0 (length (row_of routes r))) p h in
    ap (λ (v : Visit). v.robot) (higher_of_pair routes u (visit r f.0) p f.2)

-- of a visit's pairs those with one higher robot
of_one_robot : (routes : List (List PlannedVisit)) (i k j : ℕ) → i < j → j < length routes → filter (λ p. p.higher.robot == j) (pairs_of_visit routes i k) ≡ pairs_with routes (visit i k) j
of_one_robot routes i k j lt there =
    filter_flat_map (λ p. p.higher.robot == j) (pairs_with routes (visit i k)) (range (i + 1) (length routes))
    ∙ flat_map_one (λ r. filter (λ p. p.higher.robot == j) (pairs_with routes (visit i k) r)) (i + 1) (length routes) j (omega (arith, lt)) there others
    ∙ filter_all (λ p. p.higher.robot == j) (pairs_with routes (visit i k) j) (λ p h. eq-eqb p.higher.robot j (higher_is routes (visit i k) j p h))
  where
    others : (r : ℕ) → r ≢ j → filter (λ p. p.higher.robot == j) (pairs_with routes (visit i k) r) ≡ []
    others r ne = filter_none (λ p. p.higher.robot == j) (pairs_with routes (visit i k) r) (λ p h. ne_eqb p.higher.robot j (λ e. ne (sym (higher_is routes (visit i k) r p h) ∙ e)))

-- and of all pairs of the lower robot
between_is : (routes : List (List PlannedVisit)) (i j : ℕ) → i < j → j < length routes → filter (λ p. p.higher.robot == j) (pairs_by_visit routes i) ≡ pairs_between routes i j
unfolding pairs_between
between_is routes i j lt there =
    filter_flat_map (λ p. p.higher.robot == j) (pairs_of_visit routes i) (range 0 (length (row_of routes i)))
    ∙ flat_map_alike (λ k. filter (λ p. p.higher.robot == j) (pairs_of_visit routes i k)) (λ k. pairs_with routes (visit i k) j) (range 0 (length (row_of routes i))) (λ k h. of_one_robot routes i k j lt there)

higher_bounds : (routes : List (List PlannedVisit)) (i : ℕ) (p : Pair) → Contains (pairs_by_visit routes i) p → (i + 1 ≤ p.higher.robot) × (p.higher.robot < length routes)
higher_bounds routes i p h =
    let f = from_flat_map (pairs_of_visit routes i) (range 0 (length (row_of routes i))) p h in
    let g = from_flat_map (pairs_with routes (visit i f.0)) (range (i + 1) (length routes)) p f.2 in
    let e : p.higher.robot ≡ g.0 = higher_is routes (visit i f.0) g.0 p g.2 in
    let b = from_range (i + 1) (length routes) g.0 g.1 in
    (omega (arith, e, b.0), omega (arith, e, b.1))

-- a pair with this higher robot
abbrev some_pair : ℕ → Pair
some_pair j = record { lower = visit 0 0; higher = visit j 0; first = Lower }

abbrev tied : ℕ → Pair → Bool
tied j = ties (λ (p q : Pair). is_lt (nat_cmp p.higher.robot q.higher.robot)) (some_pair j)

-- what a stable sort by the higher robot makes of a robot's pairs
pub sorted_pairs_are : (routes : List (List PlannedVisit)) (i : ℕ) (found sorted : List Pair) → found ≡ pairs_by_visit routes i → IsNonDecreasingBy (λ p. p.higher.robot) sorted
    → IsPermutation found sorted → IsStableByKey (λ p. p.higher.robot) nat_cmp found sorted → sorted ≡ pairs_of_lower routes i
sorted_pairs_are routes i found sorted is up moved stable =
    classes (λ (p : Pair). p.higher.robot) (i + 1) (length routes) sorted (in_order (λ (p : Pair). p.higher.robot) sorted up) bounds
    ∙ flat_map_alike (class (λ (p : Pair). p.higher.robot) sorted) (pairs_between routes i) (range (i + 1) (length routes)) same
  where
    bounds : (p : Pair) → Contains sorted p → (i + 1 ≤ p.higher.robot) × (p.higher.robot < length routes)
    bounds p h = higher_bounds routes i p (subst (λ (l : List Pair). Contains l p) is (Contains-permutation sorted found p (IsPermutation-sym found sorted moved) h))

    same : (j : ℕ) → Contains (range (i + 1) (length routes)) j → filter (λ p. p.higher.robot == j) sorted ≡ pairs_between routes i j
    same j h =
        let b = from_range (i + 1) (length routes) j h in
        let lt : i < j = omega (arith, b.0) in
        filter_alike (λ (p : Pair). p.higher.robot == j) (tied j) sorted (λ p. sym (tied_numbers j p.higher.robot))
        ∙ stable (some_pair j)
        ∙ filter_alike (tied j) (λ (p : Pair). p.higher.robot == j) found (λ p. tied_numbers j p.higher.robot)
        ∙ ap (filter (λ (p : Pair). p.higher.robot == j)) is
        ∙ between_is routes i j lt b.1
