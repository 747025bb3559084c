-- How names spread from a pair to its mates.
use Rattle.std.proofs.Common.{ℕ, ◌≡◌, ◌≢◌, ◌+◌, ◌<◌, ◌≤◌, ◌⊎◌, List, [], ◌∷◌, ◌++◌, refl, sym, ap, ◌∙◌, subst, inl, inr, arith, true, false, Bool, cond, length, length-append, get_or, set, get_or-set_same, get_or-set_other, length-set}
use Rattle.std.specs.Prelude.{Contains, ◌==◌}
use Rattle.std.proofs.lemmas.Bool.{cases_lt, cases_eq, eqb-true}
use Rattle.std.proofs.lemmas.Option.{get_or_from_slice_get}
use Rattle.std.proofs.lemmas.List.Sums.{sum_by-set}
use Rattle.std.proofs.lemmas.List.Elements.{Contains-append_left, Contains-append_right, Contains-append_cases}
use Rattle.fleet_base.specs.declared.order.PairId.{PairId}
use Rattle.fleet_base.specs.Lists.{Chain, row_of}
use Rattle.fleet_base.proofs.Members.{head_in, tail_in, in_cons, in_one, in_none, place_of_element}
use Rattle.fleet_base.proofs.Sorting.{here_in}
use Rattle.edge_groups.specs.Names.{IsBeside, AreJoined, AreMutual, AreNames}
use Rattle.edge_groups.specs.Naming.{IsNamed, IsNaming, AreNamed, AreFirstNamed, unnamed_in}

-- one less has no name
pub unnamed_less : (names : List ℕ) (m name : ℕ) → m < length names → get_or names m 0 ≡ 4294967295 → name ≢ 4294967295 → unnamed_in (set names m name) + 1 ≡ unnamed_in names
unnamed_less names m name there unnamed given =
    omega (arith, sum_by-set without names m name 0 there, ap without unnamed, go (name == 4294967295) refl)
  where
    without : ℕ → ℕ
    without n = cond (n == 4294967295) 1 0

    go : (b : Bool) → (name == 4294967295) ≡ b → without name ≡ 0
    go true e = absurd (given (eqb-true name 4294967295 e))
    go false e = ap (λ (b : Bool). cond b 1 0) e

module _ (rows : List (List PairId)) (mutual_rows : AreMutual rows) where
  -- one step in front of a chain
  step_joined : (m q name : ℕ) → IsBeside rows m q → AreJoined rows q name → AreJoined rows m name
  step_joined m q name s (inl e) = inr ([], subst (λ (n : ℕ). IsBeside rows m n) e s)
  step_joined m q name s (inr (between, c)) = inr (q ∷ between, (s, c))

  -- a name more, at a number that has none
  module _ (names : List ℕ) (m name : ℕ) (given : name ≢ 4294967295) (there : m < length names) (unnamed : get_or names m 0 ≡ 4294967295) where
    here : get_or (set names m name) m 0 ≡ name
    here = get_or-set_same names m name 0 there

    other : (k : ℕ) → k ≢ m → get_or (set names m name) k 0 ≡ get_or names k 0
    other k ne = get_or-set_other names m k name 0 ne

    now_named : IsNamed (set names m name) m
    now_named = (omega (arith, there, length-set names m name), λ e. given (sym here ∙ e))

    still_named : (k : ℕ) → IsNamed names k → IsNamed (set names m name) k
    still_named k n = go (cases_eq k m)
      where
        go : (k ≡ m) ⊎ (k ≢ m) → IsNamed (set names m name) k
        go (inl e) = subst (λ (j : ℕ). IsNamed (set names m name) j) (sym e) now_named
        go (inr ne) = (omega (arith, n.0, length-set names m name), λ e. n.1 (sym (other k ne) ∙ e))

    was_named : (k : ℕ) → k ≢ m → IsNamed (set names m name) k → IsNamed names k
    was_named k ne n = (omega (arith, n.0, length-set names m name), λ e. n.1 (other k ne ∙ e))

    pub named_more : (pending more : List ℕ) (upto next : ℕ) → IsNaming rows names pending upto → AreJoined rows m name → name ≤ m
        → ((k : ℕ) → Contains pending k → Contains more k) → Contains more m → ((k : ℕ) → k < next → (k < upto) ⊎ (k ≡ m))
        → IsNaming rows (set names m name) more next
    named_more pending more upto next n joins least keeps has bound = record { count = omega (arith, n.count, length-set names m name); joined = joined_now; closed = closed_now; below = below_now }
      where
        joined_now : (k : ℕ) → IsNamed (set names m name) k → AreJoined rows k (get_or (set names m name) k 0) × (get_or (set names m name) k 0 ≤ k)
        joined_now k h = go (cases_eq k m)
          where
            go : (k ≡ m) ⊎ (k ≢ m) → AreJoined rows k (get_or (set names m name) k 0) × (get_or (set names m name) k 0 ≤ k)
            go (inl e) =
                let there_name : get_or (set names m name) k 0 ≡ name = ap (λ (j : ℕ). get_or (set names m name) j 0) e ∙ here in
                (subst (λ (j : ℕ). AreJoined rows k j) (sym there_name) (subst (λ (j : ℕ). AreJoined rows j name) (sym e) joins), omega (arith, there_name, e, least))
            go (inr ne) =
                let old = n.joined k (was_named k ne h) in
                (subst (λ (j : ℕ). AreJoined rows k j) (sym (other k ne)) old.0, omega (arith, other k ne, old.1))

        closed_now : (k r : ℕ) → IsNamed (set names m name) k → IsBeside rows k r → Contains more k ⊎ (get_or (set names m name) r 0 ≡ get_or (set names m name) k 0)
        closed_now k r h s = go (cases_eq k m)
          where
            go : (k ≡ m) ⊎ (k ≢ m) → Contains more k ⊎ (get_or (set names m name) r 0 ≡ get_or (set names m name) k 0)
            go (inl e) = inl (subst (λ (j : ℕ). Contains more j) (sym e) has)
            go (inr ne) = old (n.closed k r (was_named k ne h) s) (cases_eq r m)
              where
                old : Contains pending k ⊎ (get_or names r 0 ≡ get_or names k 0) → (r ≡ m) ⊎ (r ≢ m) → Contains more k ⊎ (get_or (set names m name) r 0 ≡ get_or (set names m name) k 0)
                old (inl p) e = inl (keeps k p)
                old (inr same) (inl e) = absurd ((was_named k ne h).1 (sym same ∙ ap (λ (j : ℕ). get_or names j 0) e ∙ unnamed))
                old (inr same) (inr nr) = inr (other r nr ∙ same ∙ sym (other k ne))

        below_now : (k : ℕ) → k < next → IsNamed (set names m name) k
        below_now k lt = go (bound k lt)
          where
            go : (k < upto) ⊎ (k ≡ m) → IsNamed (set names m name) k
            go (inl old) = still_named k (n.below k old)
            go (inr e) = subst (λ (j : ℕ). IsNamed (set names m name) j) (sym e) now_named

    pub pending_named : (pending more : List ℕ) → AreNamed names pending name → ((k : ℕ) → Contains more k → Contains pending k ⊎ (k ≡ m)) → AreNamed (set names m name) more name
    pending_named pending more all only k h = go (only k h) (cases_eq k m)
      where
        go : Contains pending k ⊎ (k ≡ m) → (k ≡ m) ⊎ (k ≢ m) → IsNamed (set names m name) k × (get_or (set names m name) k 0 ≡ name)
        go c (inl e) = subst (λ (j : ℕ). IsNamed (set names m name) j × (get_or (set names m name) j 0 ≡ name)) (sym e) (now_named, here)
        go (inr e) (inr ne) = absurd (ne e)
        go (inl p) (inr ne) = (still_named k (all k p).0, other k ne ∙ (all k p).1)

  -- the first of a group
  pub group_begun : (names : List ℕ) (least : ℕ) → least ≢ 4294967295 → least < length names → get_or names least 0 ≡ 4294967295 → IsNaming rows names [] least
      → IsNaming rows (set names least least) (least ∷ []) (least + 1) × AreNamed (set names least least) (least ∷ []) least
  group_begun names least small there unnamed n = (
    named_more names least least small there unnamed [] (least ∷ []) least (least + 1) n (inl refl) (omega arith) (λ k h. absurd (in_none k h)) (head_in least []) (λ k lt. bound k lt (cases_lt k least)),
    pending_named names least least small there unnamed [] (least ∷ []) (λ k h. absurd (in_none k h)) (λ k h. inr (sym (in_one least k h))),
  )
    where
      bound : (k : ℕ) → k < least + 1 → (k < least) ⊎ (least ≤ k) → (k < least) ⊎ (k ≡ least)
      bound k lt (inl a) = inl a
      bound k lt (inr b) = inr (omega (arith, lt, b))

  module _ (names waiting : List ℕ) (q m name : ℕ) (n : IsNaming rows names (q ∷ waiting) (name + 1)) (all : AreNamed names (q ∷ waiting) name) (s : IsBeside rows q m) where
    -- a mate that has a name has this one
    pub mate_named : get_or names m 0 ≢ 4294967295 → get_or names m 0 ≡ name
    mate_named ne =
        let named : IsNamed names m = (omega (arith, mutual_rows.there q m s, n.count), ne) in
        go (n.closed m q named (mutual_rows.back q m s))
      where
        go : Contains (q ∷ waiting) m ⊎ (get_or names q 0 ≡ get_or names m 0) → get_or names m 0 ≡ name
        go (inl p) = (all m p).1
        go (inr e) = sym e ∙ (all q (head_in q waiting)).1

    -- a mate that has none gets it, and waits
    pub mate_added : get_or names m 0 ≡ 4294967295
        → IsNaming rows (set names m name) (q ∷ (waiting ++ m ∷ [])) (name + 1) × AreNamed (set names m name) (q ∷ (waiting ++ m ∷ [])) name
    mate_added unnamed = (
      named_more names m name given there unnamed (q ∷ waiting) (q ∷ (waiting ++ m ∷ [])) (name + 1) (name + 1) n joins least keeps has (λ k lt. inl lt),
      pending_named names m name given there unnamed (q ∷ waiting) (q ∷ (waiting ++ m ∷ [])) all only,
    )
      where
        given : name ≢ 4294967295
        given e = (all q (head_in q waiting)).0.1 ((all q (head_in q waiting)).1 ∙ e)

        there : m < length names
        there = omega (arith, mutual_rows.there q m s, n.count)

        joins : AreJoined rows m name
        joins = step_joined m q name (mutual_rows.back q m s) (subst (λ (j : ℕ). AreJoined rows q j) (all q (head_in q waiting)).1 (n.joined q (all q (head_in q waiting)).0).0)

        least : name ≤ m
        least = go (cases_lt m (name + 1))
          where
            go : (m < name + 1) ⊎ (name + 1 ≤ m) → name ≤ m
            go (inl lt) = absurd ((n.below m lt).1 unnamed)
            go (inr le) = omega (arith, le)

        keeps : (k : ℕ) → Contains (q ∷ waiting) k → Contains (q ∷ (waiting ++ m ∷ [])) k
        keeps k h = Contains-append_left (q ∷ waiting) (m ∷ []) k h

        has : Contains (q ∷ (waiting ++ m ∷ [])) m
        has = Contains-append_right (q ∷ waiting) (m ∷ []) m (head_in m [])

        only : (k : ℕ) → Contains (q ∷ (waiting ++ m ∷ [])) k → Contains (q ∷ waiting) k ⊎ (k ≡ m)
        only k h = go (Contains-append_cases (q ∷ waiting) (m ∷ []) k h)
          where
            go : Contains (q ∷ waiting) k ⊎ Contains (m ∷ []) k → Contains (q ∷ waiting) k ⊎ (k ≡ m)
            go (inl a) = inl a
            go (inr b) = inr (sym (in_one m k b))

  -- where all mates of a number have its name, it is pending no more
  pub done_with : (names waiting : List ℕ) (q name upto : ℕ) → IsNaming rows names (q ∷ waiting) upto → AreNamed names (q ∷ waiting) name → ((r : ℕ) → IsBeside rows q r → get_or names r 0 ≡ name)
      → IsNaming rows names waiting upto × AreNamed names waiting name
  done_with names waiting q name upto n all mates = (record { count = n.count; joined = n.joined; closed = closed_now; below = n.below }, λ k h. all k (tail_in q waiting k h))
    where
      closed_now : (k r : ℕ) → IsNamed names k → IsBeside rows k r → Contains waiting k ⊎ (get_or names r 0 ≡ get_or names k 0)
      closed_now k r h s = go (n.closed k r h s)
        where
          at_head : (q ≡ k) ⊎ Contains waiting k → Contains waiting k ⊎ (get_or names r 0 ≡ get_or names k 0)
          at_head (inl e) = inr (mates r (subst (λ (j : ℕ). IsBeside rows j r) (sym e) s) ∙ sym (all q (head_in q waiting)).1 ∙ ap (λ (j : ℕ). get_or names j 0) e)
          at_head (inr w) = inl w

          go : Contains (q ∷ waiting) k ⊎ (get_or names r 0 ≡ get_or names k 0) → Contains waiting k ⊎ (get_or names r 0 ≡ get_or names k 0)
          go (inl p) = at_head (in_cons q waiting k p)
          go (inr e) = inr e

  -- a number's first so many mates have its name, and as many numbers are left as at first
  abbrev pub Spreads : List PairId → ℕ → ℕ → ℕ → List ℕ → List ℕ → ℕ → Type 0
  Spreads mates q name left names waiting k = IsNaming rows names (q ∷ waiting) (name + 1) × AreNamed names (q ∷ waiting) name × AreFirstNamed names mates k name × (length waiting + unnamed_in names ≡ left)

  first_more : (names : List ℕ) (mates : List PairId) (k name : ℕ) (d : PairId) → AreFirstNamed names mates k name → get_or names (get_or mates k d).0 0 ≡ name → AreFirstNamed names mates (k + 1) name
  first_more names mates k name d old h j r lt at_j = go (cases_lt j k)
    where
      go : (j < k) ⊎ (k ≤ j) → get_or names r.0 0 ≡ name
      go (inl less) = old j r less at_j
      go (inr more) =
          let same : j ≡ k = omega (arith, lt, more) in
          let r_is : r ≡ get_or mates k d = sym (get_or_from_slice_get mates j r d at_j) ∙ ap (λ (i : ℕ). get_or mates i d) same in
          ap (λ (p : PairId). get_or names p.0 0) r_is ∙ h

  module _ (mates : List PairId) (q name left : ℕ) (names waiting : List ℕ) (k : ℕ) (row : mates ≡ row_of rows q) (there : k < length mates) (now : Spreads mates q name left names waiting k) where
    abbrev m : PairId
    m = get_or mates k (record { 0 = 0 })

    pub beside : IsBeside rows q m.0
    beside = subst (λ (list : List PairId). Contains list m) row (here_in mates k (record { 0 = 0 }) there)

    pub mate_there : m.0 < length names
    mate_there = omega (arith, mutual_rows.there q m.0 beside, now.0.count)

    pub spread_old : get_or names m.0 0 ≢ 4294967295 → Spreads mates q name left names waiting (k + 1)
    spread_old ne = (now.0, now.1, first_more names mates k name (record { 0 = 0 }) now.2 (mate_named names waiting q m.0 name now.0 now.1 beside ne), now.3)

    pub spread_new : get_or names m.0 0 ≡ 4294967295 → Spreads mates q name left (set names m.0 name) (waiting ++ m.0 ∷ []) (k + 1)
    spread_new unnamed =
        let added = mate_added names waiting q m.0 name now.0 now.1 beside unnamed in
        let here : get_or (set names m.0 name) m.0 0 ≡ name = get_or-set_same names m.0 name 0 mate_there in (
          added.0,
          added.1,
          first_more (set names m.0 name) mates k name (record { 0 = 0 }) old here,
          omega (arith, now.3, length-append waiting (m.0 ∷ []), unnamed_less names m.0 name mate_there unnamed given),
        )
      where
        given : name ≢ 4294967295
        given e = (now.1 q (head_in q waiting)).0.1 ((now.1 q (head_in q waiting)).1 ∙ e)

        old : AreFirstNamed (set names m.0 name) mates k name
        old j r lt at_j = go (cases_eq r.0 m.0)
          where
            go : (r.0 ≡ m.0) ⊎ (r.0 ≢ m.0) → get_or (set names m.0 name) r.0 0 ≡ name
            go (inl e) = ap (λ (i : ℕ). get_or (set names m.0 name) i 0) e ∙ get_or-set_same names m.0 name 0 mate_there
            go (inr ne) = get_or-set_other names m.0 r.0 name 0 ne ∙ now.2 j r lt at_j

  -- all mates have the name then
  pub spread_all : (mates : List PairId) (q name left : ℕ) (names waiting : List ℕ) (k : ℕ) → mates ≡ row_of rows q → length mates ≤ k → Spreads mates q name left names waiting k
      → IsNaming rows names waiting (name + 1) × AreNamed names waiting name
  spread_all mates q name left names waiting k row all now = done_with names waiting q name (name + 1) now.0 now.1 named
    where
      named : (r : ℕ) → IsBeside rows q r → get_or names r 0 ≡ name
      named r h =
          let p = place_of_element mates (record { 0 = r }) (subst (λ (list : List PairId). Contains list (record { 0 = r })) (sym row) h) in
          now.2 p.0 (record { 0 = r }) (omega (arith, p.1, all)) p.2

  -- the last that waits is taken
  pub taken : (names waiting : List ℕ) (q name upto : ℕ) → IsNaming rows names (waiting ++ q ∷ []) upto → AreNamed names (waiting ++ q ∷ []) name
      → IsNaming rows names (q ∷ waiting) upto × AreNamed names (q ∷ waiting) name
  taken names waiting q name upto n all = (record { count = n.count; joined = n.joined; closed = λ k r h s. go k (n.closed k r h s); below = n.below }, λ k h. all k (back k (in_cons q waiting k h)))
    where
      back : (k : ℕ) → (q ≡ k) ⊎ Contains waiting k → Contains (waiting ++ q ∷ []) k
      back k (inl e) = subst (λ (j : ℕ). Contains (waiting ++ q ∷ []) j) e (Contains-append_right waiting (q ∷ []) q (head_in q []))
      back k (inr w) = Contains-append_left waiting (q ∷ []) k w

      forth : (k : ℕ) → Contains waiting k ⊎ Contains (q ∷ []) k → Contains (q ∷ waiting) k
      forth k (inl w) = tail_in q waiting k w
      forth k (inr e) = subst (λ (j : ℕ). Contains (q ∷ waiting) j) (in_one q k e) (head_in q waiting)

      go : {B : Type 0} (k : ℕ) → Contains (waiting ++ q ∷ []) k ⊎ B → Contains (q ∷ waiting) k ⊎ B
      go k (inl p) = inl (forth k (Contains-append_cases waiting (q ∷ []) k p))
      go k (inr e) = inr e

  -- one number more has a name already
  pub named_next : (names : List ℕ) (q : ℕ) → q < length names → get_or names q 0 ≢ 4294967295 → IsNaming rows names [] q → IsNaming rows names [] (q + 1)
  named_next names q there named n = record { count = n.count; joined = n.joined; closed = n.closed; below = λ k lt. go k lt (cases_lt k q) }
    where
      go : (k : ℕ) → k < q + 1 → (k < q) ⊎ (q ≤ k) → IsNamed names k
      go k lt (inl less) = n.below k less
      go k lt (inr more) = let same : q ≡ k = omega (arith, lt, more) in subst (λ (j : ℕ). IsNamed names j) same (there, named)

  -- where all have names and nothing is pending, these are the least ones
  pub named_all : (names : List ℕ) → IsNaming rows names [] (length rows) → AreNames rows names
  named_all names n = record { count = n.count; each = λ q lt. record { joined = (n.joined q (n.below q lt)).0; least = least q lt } }
    where
      same : (q r : ℕ) → q < length rows → IsBeside rows q r → get_or names r 0 ≡ get_or names q 0
      same q r lt s = go (n.closed q r (n.below q lt) s)
        where
          go : Contains [] q ⊎ (get_or names r 0 ≡ get_or names q 0) → get_or names r 0 ≡ get_or names q 0
          go (inl p) = absurd (in_none q p)
          go (inr e) = e

      along : (between : List ℕ) (q r : ℕ) → q < length rows → Chain (IsBeside rows) q between r → (r < length rows) × (get_or names r 0 ≡ get_or names q 0)
      along [] q r lt c = (mutual_rows.there q r c, same q r lt c)
      along (y ∷ ys) q r lt c = let rest = along ys y r (mutual_rows.there q y c.0) c.1 in (rest.0, rest.1 ∙ same q y lt c.0)

      least : (q : ℕ) → q < length rows → (r : ℕ) → AreJoined rows q r → get_or names q 0 ≤ r
      least q lt r (inl e) = omega (arith, (n.joined q (n.below q lt)).1, e)
      least q lt r (inr (between, c)) = let rest = along between q r lt c in omega (arith, rest.1, (n.joined r (n.below r rest.0)).1)
