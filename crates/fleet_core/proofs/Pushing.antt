-- Releases that are made one by one are those of the moment.
use Rattle.std.proofs.Common.{ℕ, suc, zero, ◌≡◌, ◌≢◌, ◌+◌, ◌-◌, ◌<◌, ◌≤◌, ◌⊎◌, List, [], ◌∷◌, ◌++◌, replicate, set, refl, sym, ap, ◌∙◌, subst, inl, inr, arith, length, get_or, length-append, append-nil, append_assoc}
use Rattle.std.specs.Prelude.{flat_map, map}
use Rattle.std.specs.List.{range_with_len}
use Rattle.std.proofs.lemmas.Bool.{cases_eq}
use Rattle.std.proofs.lemmas.List.{get_or-set_same, get_or-set_other, length-set, length-replicate}
use Rattle.fleet_base.specs.declared.geometry.Visit.{Visit}
use Rattle.fleet_base.specs.Lists.{row_of}
use Rattle.fleet_base.specs.Order.{Graph}
use Rattle.fleet_base.specs.State.{FleetState, IsFleetOf, released_count}
use Rattle.fleet_base.specs.Release.{Releases, new_releases}
use Rattle.fleet_core.specs.Pushing.{pushed, HaveRoom}

abbrev visit : ℕ → ℕ → Visit
visit i k = record { robot = i; index = k }

-- lists are the same where their length and all rows are
same_rows : (xs ys : List (List ℕ)) → length xs ≡ length ys → ((i : ℕ) → i < length ys → row_of xs i ≡ row_of ys i) → xs ≡ ys
same_rows [] [] n each = refl
same_rows [] (y ∷ ys) n each = absurd (omega (arith, n))
same_rows (x ∷ xs) [] n each = absurd (omega (arith, n))
same_rows (x ∷ xs) (y ∷ ys) n each =
    let rest = same_rows xs ys (omega (arith, n)) (λ i h. each (suc i) (omega (arith, h))) in
    ap (λ (r : List ℕ). r ∷ xs) (each 0 (omega arith)) ∙ ap (λ (rs : List (List ℕ)). y ∷ rs) rest

length-pushed : (rows : List (List ℕ)) (vs : List Visit) (tick : ℕ) → length (pushed rows vs tick) ≡ length rows
length-pushed rows [] tick = refl
length-pushed rows (v ∷ vs) tick = length-pushed (set rows v.robot (row_of rows v.robot ++ tick ∷ [])) vs tick ∙ length-set rows v.robot (row_of rows v.robot ++ tick ∷ [])

pushed-append : (rows : List (List ℕ)) (vs ws : List Visit) (tick : ℕ) → pushed rows (vs ++ ws) tick ≡ pushed (pushed rows vs tick) ws tick
pushed-append rows [] ws tick = refl
pushed-append rows (v ∷ vs) ws tick = pushed-append (set rows v.robot (row_of rows v.robot ++ tick ∷ [])) vs ws tick

room-append : (lasts : List ℕ) (rows : List (List ℕ)) (vs ws : List Visit) (tick : ℕ) → HaveRoom lasts rows vs tick → HaveRoom lasts (pushed rows vs tick) ws tick → HaveRoom lasts rows (vs ++ ws) tick
room-append lasts rows [] ws tick h k = k
room-append lasts rows (v ∷ vs) ws tick h k = (h.0, h.1, room-append lasts (set rows v.robot (row_of rows v.robot ++ tick ∷ [])) vs ws tick h.2 k)

module _ (lasts : List ℕ) (tick : ℕ) where
  -- ---- visits of one robot

  -- another robot keeps its row
  other_row : (rows : List (List ℕ)) (i a m j : ℕ) → j ≢ i → row_of (pushed rows (map (visit i) (range_with_len a m)) tick) j ≡ row_of rows j
  other_row rows i a zero j ne = refl
  other_row rows i a (suc m) j ne = other_row (set rows i (row_of rows i ++ tick ∷ [])) i (a + 1) m j ne ∙ get_or-set_other rows i j (row_of rows i ++ tick ∷ []) [] ne

  -- and the robot gets as many ticks more
  own_row : (rows : List (List ℕ)) (i a m : ℕ) → i < length rows → row_of (pushed rows (map (visit i) (range_with_len a m)) tick) i ≡ row_of rows i ++ replicate m tick
  own_row rows i a zero h = sym (append-nil (row_of rows i))
  own_row rows i a (suc m) h =
      let next : List (List ℕ) = set rows i (row_of rows i ++ tick ∷ []) in
      own_row next i (a + 1) m (omega (arith, h, length-set rows i (row_of rows i ++ tick ∷ [])))
      ∙ ap (λ (r : List ℕ). r ++ replicate m tick) (get_or-set_same rows i (row_of rows i ++ tick ∷ []) [] h)
      ∙ append_assoc (row_of rows i) (tick ∷ []) (replicate m tick)

  own_room : (rows : List (List ℕ)) (i a m : ℕ) → i < length rows → i < length lasts → length (row_of rows i) + m ≤ get_or lasts i 0 + 1 → HaveRoom lasts rows (map (visit i) (range_with_len a m)) tick
  own_room rows i a zero h there few = tt
  own_room rows i a (suc m) h there few =
      let next : List (List ℕ) = set rows i (row_of rows i ++ tick ∷ []) in
      let one : length (row_of next i) ≡ length (row_of rows i) + 1 = ap (λ (r : List ℕ). length r) (get_or-set_same rows i (row_of rows i ++ tick ∷ []) [] h) ∙ length-append (row_of rows i) (tick ∷ []) in
      (there, omega (arith, few), own_room next i (a + 1) m (omega (arith, h, length-set rows i (row_of rows i ++ tick ∷ []))) there (omega (arith, one, few)))

  -- ---- visits of all robots, each with a first one and a number of them

  module _ (from more : ℕ → ℕ) where
    abbrev of_robot : ℕ → List Visit
    of_robot i = map (visit i) (range_with_len (from i) (more i))

    outside : (rows : List (List ℕ)) (a n j : ℕ) → j < a → row_of (pushed rows (flat_map of_robot (range_with_len a n)) tick) j ≡ row_of rows j
    outside rows a zero j h = refl
    outside rows a (suc n) j h =
        ap (λ (rs : List (List ℕ)). row_of rs j) (pushed-append rows (of_robot a) (flat_map of_robot (range_with_len (a + 1) n)) tick)
        ∙ outside (pushed rows (of_robot a) tick) (a + 1) n j (omega (arith, h))
        ∙ other_row rows a (from a) (more a) j (λ e. absurd (omega (arith, h, e)))

    inside : (rows : List (List ℕ)) (a n j : ℕ) → a ≤ j → j < a + n → a + n ≤ length rows → row_of (pushed rows (flat_map of_robot (range_with_len a n)) tick) j ≡ row_of rows j ++ replicate (more j) tick
    inside rows a zero j low high within = absurd (omega (arith, low, high))
    inside rows a (suc n) j low high within =
        ap (λ (rs : List (List ℕ)). row_of rs j) (pushed-append rows (of_robot a) (flat_map of_robot (range_with_len (a + 1) n)) tick)
        ∙ go (cases_eq j a) (λ ne. inside next (a + 1) n j (omega (arith, low, ne)) (omega (arith, high)) (omega (arith, within, length-pushed rows (of_robot a) tick)))
      where
        next : List (List ℕ)
        next = pushed rows (of_robot a) tick

        go : (j ≡ a) ⊎ (j ≡ a → ⊥) → ((j ≡ a → ⊥) → row_of (pushed next (flat_map of_robot (range_with_len (a + 1) n)) tick) j ≡ row_of next j ++ replicate (more j) tick)
            → row_of (pushed next (flat_map of_robot (range_with_len (a + 1) n)) tick) j ≡ row_of rows j ++ replicate (more j) tick
        go (inl e) rest =
            outside next (a + 1) n j (omega (arith, e))
            ∙ subst (λ (k : ℕ). row_of next k ≡ row_of rows k ++ replicate (more k) tick) (sym e) (own_row rows a (from a) (more a) (omega (arith, within)))
        go (inr ne) rest = rest ne ∙ ap (λ (r : List ℕ). r ++ replicate (more j) tick) (other_row rows a (from a) (more a) j ne)

    rooms : (rows : List (List ℕ)) (a n : ℕ) → a + n ≤ length rows → length rows ≡ length lasts → ((i : ℕ) → a ≤ i → i < a + n → length (row_of rows i) + more i ≤ get_or lasts i 0 + 1)
        → HaveRoom lasts rows (flat_map of_robot (range_with_len a n)) tick
    rooms rows a zero within same few = tt
    rooms rows a (suc n) within same few =
        room-append lasts rows (of_robot a) (flat_map of_robot (range_with_len (a + 1) n)) tick
        (own_room rows a (from a) (more a) (omega (arith, within)) (omega (arith, within, same)) (few a (omega arith) (omega arith)))
        (rooms (pushed rows (of_robot a) tick) (a + 1) n (omega (arith, within, length-pushed rows (of_robot a) tick)) (length-pushed rows (of_robot a) tick ∙ same)
        (λ i low high. omega (arith, few i (omega (arith, low)) (omega (arith, high)), ap (λ (r : List ℕ). length r) (other_row rows a (from a) (more a) i (λ e. absurd (omega (arith, low, e)))))))

-- what the releases of a moment add is released by giving each visit its tick in turn
module _ (g : Graph) (x x' : FleetState) (tick : ℕ) (fleet : IsFleetOf g x) (r : Releases g tick x x') where
  abbrev more : ℕ → ℕ
  more i = released_count x' i - released_count x i

  rows_are : pushed x.releases (new_releases x x') tick ≡ x'.releases
  rows_are =
      same_rows (pushed x.releases (new_releases x x') tick) x'.releases (length-pushed x.releases (new_releases x x') tick ∙ sym r.robots)
      (λ i h. inside x.lasts tick (released_count x) more x.releases 0 (length x'.releases - 0) i (omega arith) (omega (arith, h)) (omega (arith, r.robots))
      ∙ sym (r.ticks i (omega (arith, h, r.robots, fleet.releases))))

  pub release_state : record x { releases = pushed x.releases (new_releases x x') tick } ≡ x'
  release_state = ap (λ (rows : List (List ℕ)). record x { releases = rows }) rows_are ∙ sym r.others

  pub release_room : HaveRoom x.lasts x.releases (new_releases x x') tick
  release_room =
      rooms x.lasts tick (released_count x) more x.releases 0 (length x'.releases - 0) (omega (arith, r.robots)) (omega (arith, fleet.releases, ap (λ (ns : List ℕ). length ns) fleet.lasts))
      (λ i low high. few i (omega (arith, high, r.robots, fleet.releases)))
    where
      few : (i : ℕ) → i < length g.lasts → length (row_of x.releases i) + more i ≤ get_or x.lasts i 0 + 1
      few i h =
          let grown = ap (λ (rs : List ℕ). length rs) (r.ticks i h) ∙ length-append (row_of x.releases i) (replicate (more i) tick) in
          omega (arith, grown, length-replicate (more i) tick, (r.each i h).within, ap (λ (ns : List ℕ). get_or ns i 0) fleet.lasts)
