-- Rows that are placed in a list one after another.
use Rattle.std.proofs.Common.{ℕ, suc, ◌≡◌, ◌≢◌, ◌+◌, ◌-◌, ◌*◌, ◌/◌, ◌%◌, ◌<◌, ◌≤◌, ◌⊎◌, List, [], ◌∷◌, ◌++◌, refl, sym, ap, ◌∙◌, subst, inl, inr, arith, length, take, drop, map, get_or, set, length-append, length-drop, length-set, get_or-set_same, get_or-set_other}
use Rattle.std.proofs.lemmas.Bool.{cases_lt, cases_eq}
use Rattle.std.proofs.Math.Seq.{take-length}
use Rattle.std.proofs.lemmas.List.{drop-append-le, take-append-drop, length-take, get_or_past}
use Rattle.fleet_base.specs.declared.order.PairId.{PairId}
use Rattle.fleet_base.specs.Lists.{row_of}
use Rattle.fleet_base.proofs.GraphLaws.{length-map, get_or-map}
use Rattle.edge_groups.specs.declared.lists.MateLists.{MateLists}
use Rattle.edge_groups.specs.Kept.{mates_at, AreWithin}
use Rattle.edge_groups.specs.Naming.{IsNamed, unnamed_in}
use Rattle.edge_groups.specs.Packing.{IsPlaceOf, IsPacking}
use Rattle.edge_groups.proofs.Rows.{part_kept}
use Rattle.edge_groups.proofs.Spreading.{unnamed_less}

-- what is appended leaves a place as it is
grown : (mates more : List PairId) (place : ℕ) (row : List PairId) → IsPlaceOf mates place row → IsPlaceOf (mates ++ more) place row
grown mates more place row p = (omega (arith, p.0, length-append mates more), part_kept mates more place p.0 ∙ p.1)

-- one place more
pub placed_more : (rows : List (List PairId)) (lists new : MateLists) (upto q place : ℕ) (more : List PairId) → IsPacking rows lists upto → q < length lists.places.items → get_or lists.places.items q 0 ≡ 4294967295
    → new.places.items ≡ set lists.places.items q place → place < 4294967295 → IsPlaceOf new.mates.items place (row_of rows q) → length more ≤ 8 → new.mates.items ≡ lists.mates.items ++ more
    → IsPacking rows new upto × IsNamed new.places.items q × ((k : ℕ) → IsNamed lists.places.items k → IsNamed new.places.items k)
placed_more rows lists new upto q place more p there unplaced places small of_row short mates = (
  record {
    count = omega (arith, p.count, ap length places, length-set lists.places.items q place);
    few = omega (arith, p.few, ap length places, length-set lists.places.items q place);
    room = omega (arith, p.room, ap length places, length-set lists.places.items q place, ap length mates, length-append lists.mates.items more, short, ap unnamed_in places, unnamed_less lists.places.items q place there unplaced (λ e. omega (arith, e, small)));
    placed = placed_now;
    below = λ k lt. still k (p.below k lt);
  },
  now_named,
  still,
)
  where
    here : get_or new.places.items q 0 ≡ place
    here = ap (λ (ps : List ℕ). get_or ps q 0) places ∙ get_or-set_same lists.places.items q place 0 there

    other : (k : ℕ) → k ≢ q → get_or new.places.items k 0 ≡ get_or lists.places.items k 0
    other k ne = ap (λ (ps : List ℕ). get_or ps k 0) places ∙ get_or-set_other lists.places.items q k place 0 ne

    as_long : length new.places.items ≡ length lists.places.items
    as_long = omega (arith, ap length places, length-set lists.places.items q place)

    now_named : IsNamed new.places.items q
    now_named = (omega (arith, there, as_long), λ e. omega (arith, here, e, small))

    still : (k : ℕ) → IsNamed lists.places.items k → IsNamed new.places.items k
    still k n = go (cases_eq k q)
      where
        go : (k ≡ q) ⊎ (k ≢ q) → IsNamed new.places.items k
        go (inl e) = subst (λ (j : ℕ). IsNamed new.places.items j) (sym e) now_named
        go (inr ne) = (omega (arith, n.0, as_long), λ e. n.1 (sym (other k ne) ∙ e))

    placed_now : (k : ℕ) → IsNamed new.places.items k → IsPlaceOf new.mates.items (get_or new.places.items k 0) (row_of rows k)
    placed_now k n = go (cases_eq k q)
      where
        go : (k ≡ q) ⊎ (k ≢ q) → IsPlaceOf new.mates.items (get_or new.places.items k 0) (row_of rows k)
        go (inl e) =
            subst (λ (j : ℕ). IsPlaceOf new.mates.items (get_or new.places.items j 0) (row_of rows j)) (sym e)
            (subst (λ (pl : ℕ). IsPlaceOf new.mates.items pl (row_of rows q)) (sym here) of_row)
        go (inr ne) =
            let was : IsNamed lists.places.items k = (omega (arith, n.0, as_long), λ e. n.1 (other k ne ∙ e)) in
            subst (λ (pl : ℕ). IsPlaceOf new.mates.items pl (row_of rows k)) (sym (other k ne))
            (subst (λ (ms : List PairId). IsPlaceOf ms (get_or lists.places.items k 0) (row_of rows k)) (sym mates) (grown lists.mates.items more (get_or lists.places.items k 0) (row_of rows k) (p.placed k was)))

-- two lists of lists are one if their rows are
same_rows : (xs ys : List (List PairId)) → length xs ≡ length ys → ((k : ℕ) → k < length xs → row_of xs k ≡ row_of ys k) → xs ≡ ys
same_rows [] [] e h = refl
same_rows [] (y ∷ ys) e h = absurd (omega (arith, e))
same_rows (x ∷ xs) [] e h = absurd (omega (arith, e))
same_rows (x ∷ xs) (y ∷ ys) e h =
    ap (λ (r : List PairId). r ∷ xs) (h 0 (omega arith)) ∙ ap (λ (rs : List (List PairId)). y ∷ rs) (same_rows xs ys (omega (arith, e)) (λ k lt. h (suc k) (omega (arith, lt))))

module _ (rows : List (List PairId)) (lists : MateLists) (p : IsPacking rows lists (length rows)) where
  -- where all places are given, the rows are these
  pub packed_rows : map (mates_at lists.mates.items) lists.places.items ≡ rows
  packed_rows =
      same_rows (map (mates_at lists.mates.items) lists.places.items) rows (length-map (mates_at lists.mates.items) lists.places.items ∙ p.count)
      (λ k lt.
      let there : k < length lists.places.items = omega (arith, lt, length-map (mates_at lists.mates.items) lists.places.items) in
      get_or-map (mates_at lists.mates.items) lists.places.items k 0 [] there ∙ (p.placed k (p.below k (omega (arith, there, p.count)))).1)

  pub packed_within : AreWithin lists.places.items (length lists.mates.items)
  packed_within k lt = (p.placed k (p.below k (omega (arith, lt, p.count)))).0

  pub packed_short : length lists.mates.items ≤ 8 * length lists.places.items
  packed_short = omega (arith, p.room)

-- a row of which a list has the beginning at its end, and gets the rest
pub row_placed : (list row : List PairId) (shared start : ℕ) → shared ≤ length list → shared ≤ length row → length row < 8 → length list ≤ 8388608 → start ≡ length list - shared → drop (length list - shared) list ≡ take shared row
    → (start * 8 + length row < 4294967295) × IsPlaceOf (list ++ drop shared row) (start * 8 + length row) row
row_placed list row shared start in_list in_row short room from same = (omega (arith, short, room, from), (within, names))
  where
    begins : (start * 8 + length row) / 8 ≡ start
    begins = omega (arith, short)

    counts : (start * 8 + length row) % 8 ≡ length row
    counts = omega (arith, short)

    within : (start * 8 + length row) / 8 + (start * 8 + length row) % 8 ≤ length (list ++ drop shared row)
    within = omega (arith, begins, counts, length-append list (drop shared row), length-drop shared row, in_list, in_row, from)

    count : (start * 8 + length row) / 8 + (start * 8 + length row) % 8 - (start * 8 + length row) / 8 ≡ length row
    count = omega (arith, begins, counts)

    behind : drop ((start * 8 + length row) / 8) (list ++ drop shared row) ≡ row
    behind =
        let low : start ≤ length list = omega (arith, from) in
        ap (λ (n : ℕ). drop n (list ++ drop shared row)) begins ∙ drop-append-le start list (drop shared row) low
        ∙ ap (λ (n : ℕ). drop n list ++ drop shared row) from ∙ ap (λ (xs : List PairId). xs ++ drop shared row) same ∙ take-append-drop shared row

    names : mates_at (list ++ drop shared row) (start * 8 + length row) ≡ row
    names = ap (λ (n : ℕ). take n (drop ((start * 8 + length row) / 8) (list ++ drop shared row))) count ∙ ap (take (length row)) behind ∙ take-length row

-- the rest of a row, as a part of it
pub rest_of : (row : List PairId) (shared : ℕ) → take (length row - shared) (drop shared row) ≡ drop shared row
rest_of row shared = ap (λ (n : ℕ). take n (drop shared row)) (sym (length-drop shared row)) ∙ take-length (drop shared row)

-- a row that a place names is short
pub row_short : (mates : List PairId) (places : List ℕ) (q : ℕ) → length (row_of (map (mates_at mates) places) q) < 8
row_short mates places q = go (cases_lt q (length places))
  where
    part_short : (place : ℕ) → length (mates_at mates place) < 8
    part_short place = omega (arith, length-take (place / 8 + place % 8 - place / 8) (drop (place / 8) mates))

    go : (q < length places) ⊎ (length places ≤ q) → length (row_of (map (mates_at mates) places) q) < 8
    go (inl there) = omega (arith, ap length (get_or-map (mates_at mates) places q 0 [] there), part_short (get_or places q 0))
    go (inr past) = omega (arith, ap length (get_or_past (map (mates_at mates) places) q [] (omega (arith, past, length-map (mates_at mates) places))))

-- the first of those that are placed has a place
pub first_placed : (places new : List ℕ) (q first : ℕ) → (q ≡ first) ⊎ IsNamed places first → IsNamed new q → ((k : ℕ) → IsNamed places k → IsNamed new k) → IsNamed new first
first_placed places new q first (inl e) n still = subst (λ (j : ℕ). IsNamed new j) e n
first_placed places new q first (inr h) n still = still first h
