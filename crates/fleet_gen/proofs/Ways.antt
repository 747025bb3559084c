-- A robot that waits and then goes along its road, beside paths along other roads.
use Rattle.std.proofs.Common.{ℕ, suc, zero, ◌≡◌, ◌+◌, ◌-◌, ◌<◌, ◌≤◌, ◌⊎◌, List, [], ◌∷◌, ◌++◌, sym, ap, ◌∙◌, subst, inl, inr, arith, length, min}
use Rattle.std.specs.Prelude.{IsTrue, slice_index_or, map}
use Rattle.std.specs.List.{range_with_len}
use Rattle.std.proofs.lemmas.Bool.{cases_lt}
use Rattle.std.proofs.lemmas.List.FromFn.{length-map-range_with_len, get_or-map-range_with_len, map-range_with_len_more}
use Rattle.fleet_base.specs.declared.geometry.Cell.{Cell}
use Rattle.fleet_base.specs.Lists.{row_of}
use Rattle.fleet_base.specs.Grid.{OccupancyGrid, is_free, distance}
use Rattle.fleet_base.specs.Plan.{cell_at, no_cell, IsSound}
use Rattle.fleet_gen.specs.declared.road.Road.{Road}
use Rattle.fleet_gen.specs.Roads.{IsRoad, moves_of, cell_after, path_of}
use Rattle.plan_steps.specs.Steps.{path_at, Moves, IsClear, IsClosed, MayStep, IsStepwise}
use Rattle.fleet_gen.specs.Departures.{AreBeside, IsFreeRoad}
use Rattle.plan_steps.proofs.Beside.{stepwise, sound_together}
use Rattle.fleet_gen.proofs.Courses.{near, ends, apart_first, apart_last}

pub one_more : (r : Road) (n : ℕ) → cell_after r (n + 1) ≡ cell_after r (suc n)
one_more r n = let e : n + 1 ≡ suc n = omega arith in ap (cell_after r) e

-- ---- the path of a robot
module _ (r : Road) (wait : ℕ) where
  pub length-path : length (path_of r wait) ≡ wait + moves_of r + 1
  unfolding path_of
  length-path = length-map-range_with_len (λ t. cell_after r (t - wait)) 0 (wait + moves_of r + 1)

  listed_cell : (t : ℕ) → t < wait + moves_of r + 1 → slice_index_or (path_of r wait) t no_cell ≡ cell_after r (t - wait)
  unfolding path_of
  listed_cell t h = get_or-map-range_with_len (λ t. cell_after r (t - wait)) 0 (wait + moves_of r + 1) t t no_cell h (omega arith)

  pub path_more : (n : ℕ) (path new : List Cell) (moved : ℕ) (cell : Cell) → path ≡ map (λ t. cell_after r (t - wait)) (range_with_len 0 n) → new ≡ path ++ cell ∷ [] → cell ≡ cell_after r moved → moved ≡ n - wait
      → new ≡ map (λ t. cell_after r (t - wait)) (range_with_len 0 (n + 1))
  path_more n path new moved cell p e c m =
      e ∙ (ap (λ (xs : List Cell). xs ++ cell ∷ []) p
      ∙ (ap (λ (x : Cell). map (λ t. cell_after r (t - wait)) (range_with_len 0 n) ++ x ∷ []) (c ∙ ap (cell_after r) m)
      ∙ sym (map-range_with_len_more (λ t. cell_after r (t - wait)) 0 n n (omega arith))))

  pub path_all : (n : ℕ) (path : List Cell) → path ≡ map (λ t. cell_after r (t - wait)) (range_with_len 0 n) → n ≡ wait + moves_of r + 1 → path ≡ path_of r wait
  unfolding path_of
  path_all n path e f = e ∙ ap (λ (k : ℕ). map (λ t. cell_after r (t - wait)) (range_with_len 0 k)) f

  module _ (lies : IsRoad r) where
    -- its cell at a tick is that after the moves since it departed
    pub path_cell : (t : ℕ) → path_at (path_of r wait) t ≡ cell_after r (t - wait)
    path_cell t = go (cases_lt t (wait + moves_of r + 1))
      where
        last : length (path_of r wait) - 1 ≡ wait + moves_of r
        last = omega (arith, length-path)

        go : (t < wait + moves_of r + 1) ⊎ (wait + moves_of r + 1 ≤ t) → path_at (path_of r wait) t ≡ cell_after r (t - wait)
        go (inl lt) =
            let e : min t (length (path_of r wait) - 1) ≡ t = omega (arith, last, lt) in
            ap (λ (n : ℕ). slice_index_or (path_of r wait) n no_cell) e ∙ listed_cell t lt
        go (inr le) =
            let e : min t (length (path_of r wait) - 1) ≡ wait + moves_of r = omega (arith, last, le) in
            let lt : wait + moves_of r < wait + moves_of r + 1 = omega arith in
            ap (λ (n : ℕ). slice_index_or (path_of r wait) n no_cell) e
            ∙ (listed_cell (wait + moves_of r) lt ∙ (ends r lies (wait + moves_of r - wait) (omega arith) ∙ sym (ends r lies (t - wait) (omega (arith, le)))))

module _ (grid : OccupancyGrid) (fixed : List (List Cell)) (road : Road) (limit : ℕ) (lies : IsRoad road) (beside : AreBeside road limit fixed) where
  -- where a fixed robot is
  fixed_at : (j t : ℕ) (h : j < length fixed) → cell_at fixed j t ≡ cell_after (beside j h).other (t - (beside j h).wait)
  fixed_at j t h = let b = beside j h in ap (λ (row : List Cell). path_at row t) b.is ∙ path_cell b.other b.wait b.lies t

  -- none is ever in the first cell of the road, nor in the last one
  pub first_clear : (t : ℕ) → IsClear fixed t (cell_after road 0)
  first_clear t j h e = let b = beside j h in apart_first road b.other lies b.lies b.row (t - b.wait) (sym (fixed_at j t h) ∙ e)

  pub last_clear : (t n : ℕ) → moves_of road ≤ n → IsClear fixed t (cell_after road n)
  last_clear t n le j h e = let b = beside j h in apart_last road b.other lies b.lies b.goal (t - b.wait) n le (sym (fixed_at j t h) ∙ e)

  pub listed : (i : ℕ) → i < length fixed → 1 ≤ length (row_of fixed i)
  listed i h = let b = beside i h in omega (arith, ap length b.is, length-path b.other b.wait)

  module _ (wait : ℕ) where
    -- the steps that the robot takes
    abbrev pub MayGo : ℕ → Type 0
    MayGo n = MayStep grid fixed (wait + n) (cell_after road n) (cell_after road (suc n))

    pub clear_here : (n : ℕ) → ((m : ℕ) → m < n → MayGo m) → IsClear fixed (wait + n) (cell_after road n)
    clear_here zero before = first_clear (wait + zero)
    clear_here (suc n) before =
        let e : suc (wait + n) ≡ wait + suc n = omega arith in
        subst (λ (t : ℕ). IsClear fixed t (cell_after road (suc n))) e (before n (omega arith)).clear

    near_itself : (c : Cell) → distance c c ≤ 1
    near_itself c = omega arith

    -- from the first cell, in which no fixed robot is, nobody moves
    unclosed_first : (t : ℕ) (c : Cell) → IsClosed fixed t (cell_after road 0) c → ⊥
    unclosed_first t c ([], m) = first_clear t m.robot m.there m.was
    unclosed_first t c (b ∷ bs, m) = first_clear t m.0.robot m.0.there m.0.was

    pub may_wait : IsFreeRoad grid road → (t : ℕ) → MayStep grid fixed t (cell_after road 0) (cell_after road 0)
    may_wait free t = record { free = free 0; near = near_itself (cell_after road 0); clear = first_clear (suc t); unclosed = unclosed_first t (cell_after road 0) }

    step_along : (t : ℕ) (c d : Cell) → path_at (path_of road wait) t ≡ c → path_at (path_of road wait) (suc t) ≡ d → MayStep grid fixed t c d
        → MayStep grid fixed t (path_at (path_of road wait) t) (path_at (path_of road wait) (suc t))
    step_along t c d e f s =
        subst (λ (x : Cell). MayStep grid fixed t x (path_at (path_of road wait) (suc t))) (sym e) (subst (λ (x : Cell). MayStep grid fixed t c x) (sym f) s)

    -- the steps of the path are those
    pub goes_stepwise : IsFreeRoad grid road → ((n : ℕ) → n < moves_of road → MayGo n) → IsStepwise grid fixed (path_of road wait)
    goes_stepwise free goes = record { free = begin_free; begins = begin_clear; steps = steps; stays = stays }
      where
        at : (t : ℕ) → path_at (path_of road wait) t ≡ cell_after road (t - wait)
        at = path_cell road wait lies

        early : (t : ℕ) → t ≤ wait → path_at (path_of road wait) t ≡ cell_after road 0
        early t h = let e : t - wait ≡ 0 = omega (arith, h) in at t ∙ ap (cell_after road) e

        begin_free : IsTrue (is_free grid (path_at (path_of road wait) 0))
        begin_free = subst (λ (c : Cell). IsTrue (is_free grid c)) (sym (early 0 (omega arith))) (free 0)

        begin_clear : IsClear fixed 0 (path_at (path_of road wait) 0)
        begin_clear = subst (λ (c : Cell). IsClear fixed 0 c) (sym (early 0 (omega arith))) (first_clear 0)

        steps : (t : ℕ) → suc t < length (path_of road wait) → MayStep grid fixed t (path_at (path_of road wait) t) (path_at (path_of road wait) (suc t))
        steps t h = go (cases_lt t wait)
          where
            go : (t < wait) ⊎ (wait ≤ t) → MayStep grid fixed t (path_at (path_of road wait) t) (path_at (path_of road wait) (suc t))
            go (inl lt) = step_along t (cell_after road 0) (cell_after road 0) (early t (omega (arith, lt))) (early (suc t) lt) (may_wait free t)
            go (inr le) =
                let n = t - wait in
                let few : t - wait < moves_of road = omega (arith, h, le, length-path road wait) in
                let e : wait + (t - wait) ≡ t = omega (arith, le) in
                let f : suc t - wait ≡ suc (t - wait) = omega (arith, le) in
                step_along t (cell_after road n) (cell_after road (suc n)) (at t) (at (suc t) ∙ ap (cell_after road) f)
                (subst (λ (s : ℕ). MayStep grid fixed s (cell_after road n) (cell_after road (suc n))) e (goes n few))

        stays : (t : ℕ) → length (path_of road wait) ≤ suc t → IsClear fixed t (path_at (path_of road wait) t)
        stays t h = subst (λ (c : Cell). IsClear fixed t c) (sym (at t)) (last_clear t (t - wait) (omega (arith, h, length-path road wait)))

    pub takes_steps : IsStepwise grid fixed (path_of road wait) → (n : ℕ) → n < moves_of road → MayGo n
    takes_steps s n h =
        let few : suc (wait + n) < length (path_of road wait) = omega (arith, h, length-path road wait) in
        let e : (wait + n) - wait ≡ n = omega arith in
        let f : suc (wait + n) - wait ≡ suc n = omega arith in
        let at = path_cell road wait lies in
        subst (λ (x : Cell). MayStep grid fixed (wait + n) x (cell_after road (suc n))) (at (wait + n) ∙ ap (cell_after road) e)
        (subst (λ (x : Cell). MayStep grid fixed (wait + n) (path_at (path_of road wait) (wait + n)) x) (at (suc (wait + n)) ∙ ap (cell_after road) f) (s.steps (wait + n) few))

    -- so it is sound exactly where each of them may be taken
    module _ (base : IsSound grid fixed) (free : IsFreeRoad grid road) where
      pub sound_going : ((n : ℕ) → n < moves_of road → MayGo n) → IsSound grid (fixed ++ path_of road wait ∷ [])
      sound_going goes = sound_together fixed (path_of road wait) grid base (goes_stepwise free goes)

      pub going_sound : IsSound grid (fixed ++ path_of road wait ∷ []) → (n : ℕ) → n < moves_of road → MayGo n
      going_sound sound = takes_steps (stepwise fixed (path_of road wait) grid sound)

      -- beside robots that have arrived each of them may be
      module _ (late : limit ≤ wait) where
        arrived_at : (j t : ℕ) → limit ≤ t → (h : j < length fixed) → cell_at fixed j t ≡ record { row = (beside j h).other.goal; col = 31 }
        arrived_at j t le h = let b = beside j h in let i = b.in_time in fixed_at j t h ∙ ends b.other b.lies (t - b.wait) (omega (arith, le, i))

        clear_late : (t n : ℕ) → limit ≤ t → IsClear fixed t (cell_after road n)
        clear_late t n le j h e =
            let b = beside j h in
            apart_last b.other road b.lies lies (λ s. b.goal (sym s)) n (moves_of b.other) (omega arith)
            (sym e ∙ (arrived_at j t le h ∙ sym (ends b.other b.lies (moves_of b.other) (omega arith))))

        no_move : (t : ℕ) (a b : Cell) → limit ≤ t → Moves fixed t a b → ⊥
        no_move t a b le m = m.changes (sym m.was ∙ (arrived_at m.robot t le m.there ∙ (sym (arrived_at m.robot (suc t) (omega (arith, le)) m.there) ∙ m.enters)))

        unclosed_late : (t : ℕ) (a b : Cell) → limit ≤ t → IsClosed fixed t a b → ⊥
        unclosed_late t a b le ([], m) = no_move t a b le m
        unclosed_late t a b le (c ∷ cs, m) = no_move t a c le m.0

        pub goes_late : (n : ℕ) → n < moves_of road → MayGo n
        goes_late n h = record {
          free = free (suc n);
          near = near road lies n;
          clear = clear_late (suc (wait + n)) (suc n) (omega (arith, late));
          unclosed = unclosed_late (wait + n) (cell_after road (suc n)) (cell_after road n) (omega (arith, late));
        }

        pub sound_late : IsSound grid (fixed ++ path_of road wait ∷ [])
        sound_late = sound_going goes_late

      -- so a wait that is not sound is shorter
      pub early_enough : (IsSound grid (fixed ++ path_of road wait ∷ []) → ⊥) → wait < limit
      early_enough not = go (cases_lt wait limit)
        where
          go : (wait < limit) ⊎ (limit ≤ wait) → wait < limit
          go (inl lt) = lt
          go (inr le) = absurd (not (sound_late le))
