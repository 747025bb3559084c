-- What is found of all robots is what the state releases.
use Rattle.std.proofs.Common.{ℕ, suc, zero, ◌≡◌, ◌+◌, ◌-◌, ◌<◌, ◌≤◌, ◌⊎◌, List, [], ◌∷◌, ◌++◌, replicate, cond, eqb, refl, sym, ap, ◌∙◌, subst, inl, inr, arith, length, length-append, append-nil, take}
use Rattle.std.specs.Prelude.{flat_map, map, sum_by}
use Rattle.std.specs.List.{range_with_len}
use Rattle.std.proofs.lemmas.Bool.{cases_eq, eq-eqb, ne_eqb, cond-true, cond-false}
use Rattle.std.proofs.lemmas.List.{length-replicate}
use Rattle.std.proofs.lemmas.List.Concat.{flat_map-append}
use Rattle.std.proofs.lemmas.List.Sums.{sum_by_more, sum_by_more_le}
use Rattle.std.proofs.lemmas.List.FromFn.{length-map-range_with_len, get_or-map-range_with_len}
use Rattle.fleet_base.specs.declared.geometry.Visit.{Visit}
use Rattle.fleet_base.specs.Lists.{row_of}
use Rattle.fleet_base.specs.Order.{Graph, last_in}
use Rattle.fleet_base.specs.State.{FleetState, order_at, released, released_count}
use Rattle.fleet_base.specs.Release.{IsLastReleasable, new_releases}
use Rattle.plan_graph.specs.Limits.{visit_count}
use Rattle.release_rule.specs.Releasing.{IsReadyToRelease, IsNewlyReleased, released_until}
use Rattle.release_rule.proofs.Found.{IsFound}

-- ---- lists that are joined number by number

range_more : (a n : ℕ) → range_with_len a (suc n) ≡ range_with_len a n ++ (a + n) ∷ []
range_more a zero = let e : a ≡ a + 0 = omega arith in ap (λ (k : ℕ). k ∷ []) e
range_more a (suc n) =
    let e : (a + 1) + n ≡ a + suc n = omega arith in
    ap (λ (ks : List ℕ). a ∷ ks) (range_more (a + 1) n ∙ ap (λ (k : ℕ). range_with_len (a + 1) n ++ k ∷ []) e)

flat_map_same : {Y : Type 0} (f h : ℕ → List Y) (a n : ℕ) → ((i : ℕ) → a ≤ i → i < a + n → f i ≡ h i) → flat_map f (range_with_len a n) ≡ flat_map h (range_with_len a n)
flat_map_same f h a zero each = refl
flat_map_same {Y} f h a (suc n) each =
    ap (λ (ys : List Y). ys ++ flat_map f (range_with_len (a + 1) n)) (each a (omega arith) (omega arith))
    ∙ ap (λ (ys : List Y). h a ++ ys) (flat_map_same f h (a + 1) n (λ i le lt. each i (omega (arith, le)) (omega (arith, lt))))

flat_map_more : {Y : Type 0} (f : ℕ → List Y) (n : ℕ) → flat_map f (range_with_len 0 (n + 1)) ≡ flat_map f (range_with_len 0 n) ++ f n
flat_map_more {Y} f n =
    let more : n + 1 ≡ suc n = omega arith in
    let here : 0 + n ≡ n = omega arith in
    ap (λ (k : ℕ). flat_map f (range_with_len 0 k)) more ∙ ap (λ (ks : List ℕ). flat_map f ks) (range_more 0 n) ∙ flat_map-append f (range_with_len 0 n) ((0 + n) ∷ [])
    ∙ ap (λ (k : ℕ). flat_map f (range_with_len 0 n) ++ flat_map f (k ∷ [])) here ∙ ap (λ (ys : List Y). flat_map f (range_with_len 0 n) ++ ys) (append-nil (f n))

-- ---- the robots one after another

module _ (g : Graph) (x : FleetState) where
  -- the list has what is found of the first so many robots, and is short enough
  pub record IsFoundBelow (n : ℕ) (list : List Visit) : Type 0 where
    pub last : ℕ → ℕ
    pub each : (i : ℕ) → i < n → IsLastReleasable g (order_at g x) x i (last i)
    pub list_is : list ≡ flat_map (λ i. released_until x i (last i + 1)) (range_with_len 0 n)
    pub short : length list ≤ sum_by (λ last. last + 1) (take n g.lasts)

  pub below_none : IsFoundBelow 0 []
  below_none = record { last = λ i. 0; each = λ i h. absurd (omega (arith, h)); list_is = refl; short = omega arith }

  -- there is room for one robot more
  pub room_for : (n : ℕ) (list : List Visit) → IsFoundBelow n list → n < length g.lasts → length list + (last_in g n + 1) ≤ visit_count g
  room_for n list f h = omega (arith, f.short, sum_by_more_le (λ (last : ℕ). last + 1) g.lasts n 0 h)

  pub below_more : (n : ℕ) (before list : List Visit) → IsFoundBelow n before → n < length g.lasts → IsFound g x n before list → IsFoundBelow (n + 1) list
  below_more n before list f h found = record {
    last = last;
    each = λ i lt. each i lt (cases_eq i n);
    list_is = found.2 ∙ ap (λ (vs : List Visit). vs ++ released_until x n (found.0 + 1)) (f.list_is ∙ flat_map_same _ _ 0 n (λ i le lt. ap (λ (k : ℕ). released_until x i (k + 1)) (sym (old i (omega (arith, lt))))))
        ∙ ap (λ (k : ℕ). flat_map (λ i. released_until x i (last i + 1)) (range_with_len 0 n) ++ released_until x n (k + 1)) (sym new)
        ∙ sym (flat_map_more (λ i. released_until x i (last i + 1)) n);
    short =
        let count : length list ≡ length before + length (released_until x n (found.0 + 1)) = ap (λ (vs : List Visit). length vs) found.2 ∙ length-append before (released_until x n (found.0 + 1)) in
        omega (arith, count, f.short, length-map-range_with_len (λ k. visit n k) (released_count x n) ((found.0 + 1) - released_count x n), found.1.within, sum_by_more (λ (last : ℕ). last + 1) g.lasts n 0 h);
  }
    where
      visit : ℕ → ℕ → Visit
      visit i k = record { robot = i; index = k }

      last : ℕ → ℕ
      last i = cond (eqb i n) found.0 (f.last i)

      old : (i : ℕ) → i < n → last i ≡ f.last i
      old i lt = cond-false (eqb i n) found.0 (f.last i) (ne_eqb i n (λ e. absurd (omega (arith, lt, e))))

      new : last n ≡ found.0
      new = cond-true (eqb n n) found.0 (f.last n) (eq-eqb n n refl)

      each : (i : ℕ) → i < n + 1 → (i ≡ n) ⊎ (i ≡ n → ⊥) → IsLastReleasable g (order_at g x) x i (last i)
      each i lt (inl e) = subst (λ (j : ℕ). IsLastReleasable g (order_at g x) x j (last j)) (sym e) (subst (λ (k : ℕ). IsLastReleasable g (order_at g x) x n k) (sym new) found.1)
      each i lt (inr ne) = let below : i < n = omega (arith, lt, ne) in subst (λ (k : ℕ). IsLastReleasable g (order_at g x) x i k) (sym (old i below)) (f.each i below)

  -- what is found of all robots is what the releases of this moment add
  pub found_is_released : (list : List Visit) → IsReadyToRelease g x → IsFoundBelow (length g.lasts) list → IsNewlyReleased g x list
  found_is_released list ready f = (after, record { others = refl; robots = robots; each = each; ticks = ticks }, whole)
    where
      grown : ℕ → List ℕ
      grown i = row_of x.releases i ++ replicate ((f.last i + 1) - released_count x i) x.clock

      rows : List (List ℕ)
      rows = map grown (range_with_len 0 (length g.lasts))

      after : FleetState
      after = record x { releases = rows }

      robots : length rows ≡ length x.releases
      robots = length-map-range_with_len grown 0 (length g.lasts) ∙ sym ready.fleet.releases

      row : (i : ℕ) → i < length g.lasts → row_of rows i ≡ grown i
      row i h = get_or-map-range_with_len grown 0 (length g.lasts) i i [] h (omega arith)

      -- what was released may be released
      further : (i : ℕ) → i < length g.lasts → released_count x i ≤ f.last i + 1
      further i h = omega (arith, (f.each i h).greatest (released x i) (ready.reach i h) (ready.clear i h))

      count : (i : ℕ) → i < length g.lasts → released_count after i ≡ f.last i + 1
      count i h =
          let both = ap (λ (r : List ℕ). length r) (row i h) ∙ length-append (row_of x.releases i) (replicate ((f.last i + 1) - released_count x i) x.clock) in
          omega (arith, both, length-replicate ((f.last i + 1) - released_count x i) x.clock, further i h)

      each : (i : ℕ) → i < length g.lasts → IsLastReleasable g (order_at g x) x i (released after i)
      each i h = subst (λ (k : ℕ). IsLastReleasable g (order_at g x) x i k) (omega (arith, count i h)) (f.each i h)

      ticks : (i : ℕ) → i < length g.lasts → row_of rows i ≡ row_of x.releases i ++ replicate (released_count after i - released_count x i) x.clock
      ticks i h = row i h ∙ ap (λ (n : ℕ). row_of x.releases i ++ replicate (n - released_count x i) x.clock) (sym (count i h))

      whole : list ≡ new_releases x after
      whole =
          let all : length g.lasts ≡ length rows - 0 = omega (arith, length-map-range_with_len grown 0 (length g.lasts)) in
          f.list_is ∙ flat_map_same _ _ 0 (length g.lasts) (λ i le lt. ap (λ (n : ℕ). released_until x i n) (sym (count i (omega (arith, lt)))))
          ∙ ap (λ (n : ℕ). flat_map (λ i. released_until x i (released_count after i)) (range_with_len 0 n)) all
