-- One more path beside a sound plan: it is sound exactly if each of its steps is one that it may take.
use Rattle.std.proofs.Common.{ℕ, suc, zero, ◌≡◌, ◌≢◌, ◌-◌, ◌<◌, ◌≤◌, ◌⊎◌, List, [], ◌∷◌, ◌++◌, refl, sym, ap, ◌∙◌, subst, inl, inr, arith, length, min, length-append}
use Rattle.std.specs.Prelude.{Contains, slice_index_or, IsTrue}
use Rattle.std.proofs.lemmas.Bool.{cases_eq, cases_lt}
use Rattle.std.proofs.lemmas.List.{get_or_append_left}
use Rattle.std.proofs.Math.Seq.{get_or-append_seam}
use Rattle.fleet_base.specs.declared.geometry.Cell.{Cell}
use Rattle.fleet_base.specs.Lists.{Chain}
use Rattle.fleet_base.specs.Grid.{OccupancyGrid, is_free, distance}
use Rattle.fleet_base.specs.Plan.{cell_at, no_cell, Follows, IsRotation, IsCollisionFree, IsSound}
use Rattle.fleet_base.proofs.Members.{head_in, tail_in}
use Rattle.plan_steps.specs.Steps.{path_at, Moves, IsClear, IsClosed, IsStepwise}
use Rattle.plan_steps.proofs.Chains.{in_or_not, ring_from, first_step, step_of, no_round}

module _ (fixed : List (List Cell)) (path : List Cell) where
  abbrev pub together : List (List Cell)
  together = fixed ++ path ∷ []

  pub old_at : (i t : ℕ) → i < length fixed → cell_at together i t ≡ cell_at fixed i t
  old_at i t h = ap (λ (row : List Cell). slice_index_or row (min t (length row - 1)) no_cell) (get_or_append_left fixed (path ∷ []) [] i h)

  pub new_at : (t : ℕ) → cell_at together (length fixed) t ≡ path_at path t
  new_at t = ap (λ (row : List Cell). slice_index_or row (min t (length row - 1)) no_cell) (get_or-append_seam fixed path [] [])

  one_more : length together ≡ suc (length fixed)
  one_more = omega (arith, length-append fixed (path ∷ []))

  pub new_there : length fixed < length together
  new_there = omega (arith, one_more)

  pub old_there : (i : ℕ) → i < length fixed → i < length together
  old_there i h = omega (arith, one_more, h)

  pub old_or_new : (i : ℕ) → i < length together → (i < length fixed) ⊎ (i ≡ length fixed)
  old_or_new i h = go (cases_lt i (length fixed))
    where
      go : (i < length fixed) ⊎ (length fixed ≤ i) → (i < length fixed) ⊎ (i ≡ length fixed)
      go (inl lt) = inl lt
      go (inr le) = inr (omega (arith, one_more, h, le))

  old_of : (i : ℕ) → i < length together → (i ≡ length fixed → ⊥) → i < length fixed
  old_of i h ne = go (old_or_new i h)
    where
      go : (i < length fixed) ⊎ (i ≡ length fixed) → i < length fixed
      go (inl lt) = lt
      go (inr e) = absurd (ne e)

  -- ---- where the plan with the path is sound, the path is stepwise
  module _ (t : ℕ) where
    -- moves that lead to the cell of a robot are a chain of robots that ends at it
    pub followers : (c : Cell) (between : List Cell) (d : Cell) → Chain (Moves fixed t) c between d → (z : ℕ) → cell_at together z t ≡ d
        → (x : ℕ) × (ys : List ℕ) × (x < length fixed) × (cell_at together x t ≡ c) × Chain (Follows together t) x ys z
    followers c [] d m z at =
        let here = old_at m.robot t m.there in
        let next = old_at m.robot (suc t) m.there in (
          m.robot,
          [],
          m.there,
          here ∙ m.was,
          record {
            here = old_there m.robot m.there;
            changes = λ e. m.changes (sym m.was ∙ (sym here ∙ (sym e ∙ (next ∙ m.enters))));
            enters = next ∙ (m.enters ∙ sym at);
          },
        )
    followers c (b ∷ bs) d m z at = go (followers b bs d m.1 z at)
      where
        go : (x : ℕ) × (ys : List ℕ) × (x < length fixed) × (cell_at together x t ≡ b) × Chain (Follows together t) x ys z
            → (x : ℕ) × (ys : List ℕ) × (x < length fixed) × (cell_at together x t ≡ c) × Chain (Follows together t) x ys z
        go (x, ys, h, e, chain) =
            let here = old_at m.0.robot t m.0.there in
            let next = old_at m.0.robot (suc t) m.0.there in (
              m.0.robot,
              x ∷ ys,
              m.0.there,
              here ∙ m.0.was,
              (
                record {
                  here = old_there m.0.robot m.0.there;
                  changes = λ q. m.0.changes (sym m.0.was ∙ (sym here ∙ (sym q ∙ (next ∙ m.0.enters))));
                  enters = next ∙ (m.0.enters ∙ sym e);
                },
                chain,
              ),
            )

  module _ (grid : OccupancyGrid) (sound : IsSound grid together) where
    clear_at : (t : ℕ) → IsClear fixed t (path_at path t)
    clear_at t j h e = sound.apart.shares j (length fixed) t h new_there (old_at j t h ∙ (e ∙ sym (new_at t)))

    unclosed_at : (t : ℕ) → IsClosed fixed t (path_at path (suc t)) (path_at path t) → ⊥
    unclosed_at t (between, chain) = go (followers t (path_at path (suc t)) between (path_at path t) chain (length fixed) (new_at t))
      where
        go : (x : ℕ) × (ys : List ℕ) × (x < length fixed) × (cell_at together x t ≡ path_at path (suc t)) × Chain (Follows together t) x ys (length fixed) → ⊥
        go (x, ys, h, e, c) =
            let moves : cell_at together (length fixed) (suc t) ≢ cell_at together (length fixed) t =
            λ q. sound.apart.shares x (length fixed) t h new_there (e ∙ (sym (new_at (suc t)) ∙ q)) in
            no_round together t sound.apart (length fixed) (x ∷ ys) (record { here = new_there; changes = moves; enters = new_at (suc t) ∙ sym e }, c)

    pub stepwise : IsStepwise grid fixed path
    stepwise = record {
      free = subst (λ (c : Cell). IsTrue (is_free grid c)) (new_at 0) (sound.free (length fixed) 0 new_there);
      begins = clear_at 0;
      steps = λ t h. record {
        free = subst (λ (c : Cell). IsTrue (is_free grid c)) (new_at (suc t)) (sound.free (length fixed) (suc t) new_there);
        near = subst (λ (c : Cell). distance c (path_at path (suc t)) ≤ 1) (new_at t)
            (subst (λ (c : Cell). distance (cell_at together (length fixed) t) c ≤ 1) (new_at (suc t)) (sound.steps (length fixed) t new_there));
        clear = clear_at (suc t);
        unclosed = unclosed_at t;
      };
      stays = λ t h. clear_at t;
    }

  -- ---- and the other way round
  path_stays : (t : ℕ) → length path ≤ suc t → path_at path (suc t) ≡ path_at path t
  path_stays t h =
      let e : min (suc t) (length path - 1) ≡ min t (length path - 1) = omega (arith, h) in
      ap (λ (n : ℕ). slice_index_or path n no_cell) e

  module _ (grid : OccupancyGrid) (base : IsSound grid fixed) (s : IsStepwise grid fixed path) where
    clear : (t : ℕ) → IsClear fixed t (path_at path t)
    clear zero = s.begins
    clear (suc t) = go (cases_lt (suc t) (length path))
      where
        go : (suc t < length path) ⊎ (length path ≤ suc t) → IsClear fixed (suc t) (path_at path (suc t))
        go (inl lt) = (s.steps t lt).clear
        go (inr le) = s.stays (suc t) (omega (arith, le))

    free_at : (t : ℕ) → IsTrue (is_free grid (path_at path t))
    free_at zero = s.free
    free_at (suc t) = go (cases_lt (suc t) (length path)) (free_at t)
      where
        go : (suc t < length path) ⊎ (length path ≤ suc t) → IsTrue (is_free grid (path_at path t)) → IsTrue (is_free grid (path_at path (suc t)))
        go (inl lt) before = (s.steps t lt).free
        go (inr le) before = subst (λ (c : Cell). IsTrue (is_free grid c)) (sym (path_stays t le)) before

    near_itself : (c : Cell) → distance c c ≤ 1
    near_itself c = omega arith

    near_at : (t : ℕ) → distance (path_at path t) (path_at path (suc t)) ≤ 1
    near_at t = go (cases_lt (suc t) (length path))
      where
        go : (suc t < length path) ⊎ (length path ≤ suc t) → distance (path_at path t) (path_at path (suc t)) ≤ 1
        go (inl lt) = (s.steps t lt).near
        go (inr le) = subst (λ (c : Cell). distance (path_at path t) c ≤ 1) (sym (path_stays t le)) (near_itself (path_at path t))

    -- the path closes no moves of the others
    unclosed : (t : ℕ) → path_at path (suc t) ≢ path_at path t → IsClosed fixed t (path_at path (suc t)) (path_at path t) → ⊥
    unclosed t moves closed = go (cases_lt (suc t) (length path))
      where
        go : (suc t < length path) ⊎ (length path ≤ suc t) → ⊥
        go (inl lt) = (s.steps t lt).unclosed closed
        go (inr le) = moves (path_stays t le)

    no_swap : (i t : ℕ) → i < length fixed → cell_at fixed i (suc t) ≡ path_at path t → path_at path (suc t) ≡ cell_at fixed i t → ⊥
    no_swap i t h one other =
        let apart : path_at path (suc t) ≢ path_at path t = λ e. clear t i h (sym other ∙ e) in
        unclosed t apart ([], record { robot = i; there = h; was = sym other; enters = one; changes = apart })

    -- a robot that enters the cell of the new one moves to it
    last_move : (t y : ℕ) → (y ≡ length fixed → ⊥) → Follows together t y (length fixed) → IsClosed fixed t (cell_at fixed y t) (path_at path t)
    last_move t y ne f =
        let h : y < length fixed = old_of y f.here ne in
        ([], record { robot = y; there = h; was = refl; enters = sym (old_at y (suc t) h) ∙ (f.enters ∙ new_at t); changes = clear t y h })

    -- a chain from another robot to the new one is a chain of moves to its cell
    moves_to : (t y : ℕ) (zs : List ℕ) → (y ≡ length fixed → ⊥) → Chain (Follows together t) y zs (length fixed) → IsClosed fixed t (cell_at fixed y t) (path_at path t)
    moves_to t y [] ne c = last_move t y ne c
    moves_to t y (z ∷ zs) ne c = go (cases_eq z (length fixed)) (λ nz. moves_to t z zs nz c.1)
      where
        further : (z ≡ length fixed → ⊥) → IsClosed fixed t (cell_at fixed z t) (path_at path t) → IsClosed fixed t (cell_at fixed y t) (path_at path t)
        further nz (between, chain) =
            let h : y < length fixed = old_of y c.0.here ne in
            let hz : z < length fixed = old_of z (first_step together t z zs (length fixed) c.1).1.here nz in
            let enters : cell_at fixed y (suc t) ≡ cell_at fixed z t = sym (old_at y (suc t) h) ∙ (c.0.enters ∙ old_at z t hz) in
            (cell_at fixed z t ∷ between, (record { robot = y; there = h; was = refl; enters = enters; changes = λ e. c.0.changes (old_at y (suc t) h ∙ (enters ∙ (sym e ∙ sym (old_at y t h)))) }, chain))

        go : (z ≡ length fixed) ⊎ (z ≡ length fixed → ⊥) → ((z ≡ length fixed → ⊥) → IsClosed fixed t (cell_at fixed z t) (path_at path t)) → IsClosed fixed t (cell_at fixed y t) (path_at path t)
        go (inl e) rest = last_move t y ne (subst (λ (w : ℕ). Follows together t y w) e c.0)
        go (inr nz) rest = further nz (rest nz)

    -- no ring goes through the new robot
    no_ring_through : (t : ℕ) (zs : List ℕ) → Chain (Follows together t) (length fixed) zs (length fixed) → ⊥
    no_ring_through t [] c = c.changes c.enters
    no_ring_through t (y ∷ zs) c = go (cases_eq y (length fixed))
      where
        go : (y ≡ length fixed) ⊎ (y ≡ length fixed → ⊥) → ⊥
        go (inl e) = c.0.changes (c.0.enters ∙ ap (λ (w : ℕ). cell_at together w t) e)
        go (inr ne) =
            let h : y < length fixed = old_of y (first_step together t y zs (length fixed) c.1).1.here ne in
            let into : path_at path (suc t) ≡ cell_at fixed y t = sym (new_at (suc t)) ∙ (c.0.enters ∙ old_at y t h) in
            let apart : path_at path (suc t) ≢ path_at path t = λ e. c.0.changes (new_at (suc t) ∙ (e ∙ sym (new_at t))) in
            unclosed t apart (subst (λ (w : Cell). IsClosed fixed t w (path_at path t)) (sym into) (moves_to t y zs ne c.1))

    old_step : (t x y : ℕ) → x < length fixed → y < length fixed → Follows together t x y → Follows fixed t x y
    old_step t x y hx hy f = record {
      here = hx;
      changes = λ e. f.changes (old_at x (suc t) hx ∙ (e ∙ sym (old_at x t hx)));
      enters = sym (old_at x (suc t) hx) ∙ (f.enters ∙ old_at y t hy);
    }

    -- without the new robot it is a ring of the others
    old_chain : (t a : ℕ) (ys : List ℕ) (z : ℕ) → ((x : ℕ) → Contains (a ∷ ys) x → x < length fixed) → z < length fixed → Chain (Follows together t) a ys z → Chain (Follows fixed t) a ys z
    old_chain t a [] z all hz c = old_step t a z (all a (head_in a [])) hz c
    old_chain t a (y ∷ ys) z all hz c = (
      old_step t a y (all a (head_in a (y ∷ ys))) (all y (tail_in a (y ∷ ys) y (head_in y ys))) c.0,
      old_chain t y ys z (λ x h. all x (tail_in a (y ∷ ys) x h)) hz c.1,
    )

    no_rotation : (t : ℕ) (robots : List ℕ) → IsRotation together t robots → ⊥
    no_rotation t [] r = r.round
    no_rotation t (a ∷ ys) r = go (in_or_not (length fixed) (a ∷ ys))
      where
        go : Contains (a ∷ ys) (length fixed) ⊎ (Contains (a ∷ ys) (length fixed) → ⊥) → ⊥
        go (inl on) = let ring = ring_from (Follows together t) a ys (length fixed) r.round on in no_ring_through t ring.0 ring.1
        go (inr off) =
            let all : (x : ℕ) → Contains (a ∷ ys) x → x < length fixed = λ x h. old_of x (step_of together t a ys a x r.round h).1.here (λ e. off (subst (λ (w : ℕ). Contains (a ∷ ys) w) e h)) in
            base.apart.rotations t (a ∷ ys) (record { three = r.three; different = r.different; round = old_chain t a ys a all (all a (head_in a ys)) r.round })

    apart_together : IsCollisionFree together
    apart_together = record { shares = shares; swaps = swaps; rotations = no_rotation }
      where
        shares : (i j t : ℕ) → i < j → j < length together → cell_at together i t ≢ cell_at together j t
        shares i j t lt h e = go (old_or_new j h)
          where
            go : (j < length fixed) ⊎ (j ≡ length fixed) → ⊥
            go (inl hj) = let hi : i < length fixed = omega (arith, lt, hj) in base.apart.shares i j t lt hj (sym (old_at i t hi) ∙ (e ∙ old_at j t hj))
            go (inr is) =
                let hi : i < length fixed = omega (arith, lt, is) in
                clear t i hi (sym (old_at i t hi) ∙ (e ∙ (ap (λ (w : ℕ). cell_at together w t) is ∙ new_at t)))

        swaps : (i j t : ℕ) → i < j → j < length together → cell_at together i (suc t) ≡ cell_at together j t → cell_at together j (suc t) ≢ cell_at together i t
        swaps i j t lt h one other = go (old_or_new j h)
          where
            go : (j < length fixed) ⊎ (j ≡ length fixed) → ⊥
            go (inl hj) =
                let hi : i < length fixed = omega (arith, lt, hj) in
                base.apart.swaps i j t lt hj (sym (old_at i (suc t) hi) ∙ (one ∙ old_at j t hj)) (sym (old_at j (suc t) hj) ∙ (other ∙ old_at i t hi))
            go (inr is) =
                let hi : i < length fixed = omega (arith, lt, is) in
                no_swap i t hi (sym (old_at i (suc t) hi) ∙ (one ∙ (ap (λ (w : ℕ). cell_at together w t) is ∙ new_at t)))
                (sym (new_at (suc t)) ∙ (sym (ap (λ (w : ℕ). cell_at together w (suc t)) is) ∙ (other ∙ old_at i t hi)))

    pub sound_together : IsSound grid together
    sound_together = record { free = free; steps = steps; apart = apart_together }
      where
        free : (i t : ℕ) → i < length together → IsTrue (is_free grid (cell_at together i t))
        free i t h = go (old_or_new i h)
          where
            go : (i < length fixed) ⊎ (i ≡ length fixed) → IsTrue (is_free grid (cell_at together i t))
            go (inl hi) = subst (λ (c : Cell). IsTrue (is_free grid c)) (sym (old_at i t hi)) (base.free i t hi)
            go (inr is) = subst (λ (c : Cell). IsTrue (is_free grid c)) (sym (ap (λ (w : ℕ). cell_at together w t) is ∙ new_at t)) (free_at t)

        steps : (i t : ℕ) → i < length together → distance (cell_at together i t) (cell_at together i (suc t)) ≤ 1
        steps i t h = go (old_or_new i h)
          where
            at : (c d : Cell) → cell_at together i t ≡ c → cell_at together i (suc t) ≡ d → distance c d ≤ 1 → distance (cell_at together i t) (cell_at together i (suc t)) ≤ 1
            at c d e f n = subst (λ (x : Cell). distance x (cell_at together i (suc t)) ≤ 1) (sym e) (subst (λ (x : Cell). distance c x ≤ 1) (sym f) n)

            go : (i < length fixed) ⊎ (i ≡ length fixed) → distance (cell_at together i t) (cell_at together i (suc t)) ≤ 1
            go (inl hi) = at (cell_at fixed i t) (cell_at fixed i (suc t)) (old_at i t hi) (old_at i (suc t) hi) (base.steps i t hi)
            go (inr is) = at (path_at path t) (path_at path (suc t)) (ap (λ (w : ℕ). cell_at together w t) is ∙ new_at t) (ap (λ (w : ℕ). cell_at together w (suc t)) is ∙ new_at (suc t)) (near_at t)
