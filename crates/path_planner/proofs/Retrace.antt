-- The ways back from the goal, and the least of them forwards.
use Rattle.std.proofs.Common.{ℕ, zero, suc, ◌≡◌, ◌≢◌, ◌+◌, ◌-◌, ◌<◌, ◌≤◌, ◌⊎◌, IsTrue, List, [], ◌∷◌, ◌++◌, length, get_or, refl, sym, ap, ◌∙◌, subst, ⊎_elim, inl, inr, below_more, arith, append_assoc, get_or-set_same, get_or-set_other}
use Rattle.std.proofs.lemmas.List.{append-nil}
use Rattle.std.specs.Prelude.{Contains, Option, Some, None, MatchOption, IsSome, slice_set}
use Rattle.std.proofs.lemmas.Bool.{cases_eq, cases_order}
use Rattle.std.proofs.lemmas.List.Elements.{Contains-get_or, Contains-append_left, Contains-push, Contains-push_cases}
use Rattle.std.proofs.Math.ListN.{length-set}
use Rattle.fleet_base.specs.declared.geometry.Cell.{Cell}
use Rattle.fleet_base.specs.Grid.{OccupancyGrid, is_free, distance}
use Rattle.fleet_base.specs.Lists.{row_of}
use Rattle.fleet_base.specs.Plan.{no_cell}
use Rattle.map_text.specs.declared.scenario.Task.{Task}
use Rattle.path_planner.specs.Planning.{IsBefore}
use Rattle.plan_steps.specs.Steps.{IsClear, MayStep}
use Rattle.path_planner.specs.Layers.{IsReached, LeadsTo, IsLeastStep, IsLeastWay}
use Rattle.path_planner.specs.Search.{HasWays, AreWays, AreStood, LeadsInto, IsKept, IsAtMost, IsLesser, IsLeastInto, IsLeastPath}
use Rattle.path_planner.proofs.Ways.{reached_clear}
use Rattle.path_planner.proofs.Around.{same_cells}
use Rattle.path_planner.proofs.Spread.{found_at, reached_free}

-- ---- cells in their order
before_on : (a b c : Cell) → IsBefore a b → IsBefore b c → IsBefore a c
before_on a b c (inl p) (inl q) = inl (omega (arith, p, q))
before_on a b c (inl p) (inr q) = inl (omega (arith, p, q.0))
before_on a b c (inr p) (inl q) = inl (omega (arith, p.0, q))
before_on a b c (inr p) (inr q) = inr (omega (arith, p.0, q.0), omega (arith, p.1, q.1))

at_most_on : (a b c : Cell) → IsAtMost a b → IsAtMost b c → IsAtMost a c
at_most_on a b c (inl p) (inl q) = inl (before_on a b c p q)
at_most_on a b c (inl p) (inr e) = inl (subst (IsBefore a) e p)
at_most_on a b c (inr e) q = subst (λ x. IsAtMost x c) (sym e) q

-- what is not before another comes behind it or is it
pub at_most_of : (a b : Cell) → ¬ IsBefore b a → IsAtMost a b
at_most_of a b none = rows (cases_order a.row b.row)
  where
    cols : a.row ≡ b.row → (a.col ≡ b.col) ⊎ ((a.col < b.col) ⊎ (b.col < a.col)) → IsAtMost a b
    cols row (inl col) = inr (same_cells a b row col)
    cols row (inr (inl less)) = inl (inr (row, less))
    cols row (inr (inr more)) = absurd (none (inr (sym row, more)))

    rows : (a.row ≡ b.row) ⊎ ((a.row < b.row) ⊎ (b.row < a.row)) → IsAtMost a b
    rows (inl row) = cols row (cases_order a.col b.col)
    rows (inr (inl less)) = inl (inl less)
    rows (inr (inr more)) = absurd (none (inl more))

module _ (grid : OccupancyGrid) (fixed : List (List Cell)) (t : ℕ) where
  -- the least of the first n of these cells that are in the next layer and into which a step leads
  pub record IsLeastAmong (from : Cell) (next near : List Cell) (n : ℕ) (cell : Cell) : Type 0 where
    pub there : Contains next cell
    pub step : MayStep grid fixed t from cell
    pub least : (k : ℕ) → k < n → Contains next (get_or near k no_cell) → MayStep grid fixed t from (get_or near k no_cell) → IsAtMost cell (get_or near k no_cell)

  -- the same, where there may be none
  abbrev pub IsLeastOf : Cell → List Cell → List Cell → ℕ → Option Cell → Type 0
  IsLeastOf from next near n least =
      MatchOption least ((k : ℕ) → k < n → Contains next (get_or near k no_cell) → MayStep grid fixed t from (get_or near k no_cell) → ⊥) (IsLeastAmong from next near n)

  pub least_left_out : (from : Cell) (next near : List Cell) (n : ℕ) (least : Option Cell) → IsLeastOf from next near n least
      → (Contains next (get_or near n no_cell) → MayStep grid fixed t from (get_or near n no_cell) → ⊥) → IsLeastOf from next near (n + 1) least
  least_left_out from next near n None none out = below_more (λ k. Contains next (get_or near k no_cell) → MayStep grid fixed t from (get_or near k no_cell) → ⊥) n none out
  least_left_out from next near n (Some cell) so out = record {
    there = so.there;
    step = so.step;
    least = below_more (λ k. Contains next (get_or near k no_cell) → MayStep grid fixed t from (get_or near k no_cell) → IsAtMost cell (get_or near k no_cell)) n so.least (λ there step. absurd (out there step));
  }

  pub least_taken : (from : Cell) (next near : List Cell) (n : ℕ) (least : Option Cell) (to lesser : Cell) → IsLeastOf from next near n least
      → get_or near n no_cell ≡ to → Contains next to → MayStep grid fixed t from to → MatchOption least (lesser ≡ to) (λ cell. IsLesser cell to lesser) → IsLeastOf from next near (n + 1) (Some lesser)
  least_taken from next near n None to lesser none is there step e = record {
    there = subst (Contains next) (sym e) there;
    step = subst (MayStep grid fixed t from) (sym e) step;
    least = below_more (λ k. Contains next (get_or near k no_cell) → MayStep grid fixed t from (get_or near k no_cell) → IsAtMost lesser (get_or near k no_cell)) n
        (λ k h a b. absurd (none k h a b)) (λ a b. inr (e ∙ sym is));
  }
  least_taken from next near n (Some cell) to lesser so is there step l = record {
    there = ⊎_elim (λ e. subst (Contains next) (sym e) so.there) (λ e. subst (Contains next) (sym e) there) l.one;
    step = ⊎_elim (λ e. subst (MayStep grid fixed t from) (sym e) so.step) (λ e. subst (MayStep grid fixed t from) (sym e) step) l.one;
    least = below_more (λ k. Contains next (get_or near k no_cell) → MayStep grid fixed t from (get_or near k no_cell) → IsAtMost lesser (get_or near k no_cell)) n
        (λ k h a b. at_most_on lesser cell (get_or near k no_cell) l.first (so.least k h a b))
        (λ a b. subst (IsAtMost lesser) (sym is) l.second);
  }

  -- all cells around were looked at
  pub some_least : (from : Cell) (next near : List Cell) (n : ℕ) (least : Option Cell) → IsLeastOf from next near n least → length near ≤ n
      → ((to : Cell) → IsTrue (is_free grid to) → distance from to ≤ 1 → Contains near to) → LeadsInto grid fixed t from next → IsSome least
  some_least from next near n None none all around leads =
      let p = found_at near leads.0 (around leads.0 leads.2.free leads.2.near) in
      absurd (none p.0 (omega (arith, p.1, all)) (subst (Contains next) (sym p.2) leads.1) (subst (MayStep grid fixed t from) (sym p.2) leads.2))
  some_least from next near n (Some cell) so all around leads = refl

  pub least_into : (from : Cell) (next near : List Cell) (n : ℕ) (least : Option Cell) (cell : Cell) → IsLeastOf from next near n least → least ≡ Some cell → length near ≤ n
      → ((to : Cell) → IsTrue (is_free grid to) → distance from to ≤ 1 → Contains near to) → IsLeastInto grid fixed t from next cell
  least_into from next near n least cell of e all around =
      let so : IsLeastAmong from next near n cell = subst (IsLeastOf from next near n) e of in
      record {
        there = so.there;
        step = so.step;
        least = λ d there step.
            let p = found_at near d (around d step.free step.near) in
            subst (IsAtMost cell) p.2 (so.least p.0 (omega (arith, p.1, all)) (subst (Contains next) (sym p.2) there) (subst (MayStep grid fixed t from) (sym p.2) step));
      }

  -- no step leads into the next layer
  pub leads_nowhere : (from : Cell) (next near : List Cell) (n : ℕ) → ((k : ℕ) → k < n → Contains next (get_or near k no_cell) → MayStep grid fixed t from (get_or near k no_cell) → ⊥) → length near ≤ n
      → ((to : Cell) → IsTrue (is_free grid to) → distance from to ≤ 1 → Contains near to) → ¬ LeadsInto grid fixed t from next
  leads_nowhere from next near n none all around leads =
      let p = found_at near leads.0 (around leads.0 leads.2.free leads.2.near) in
      none p.0 (omega (arith, p.1, all)) (subst (Contains next) (sym p.2) leads.1) (subst (MayStep grid fixed t from) (sym p.2) leads.2)

  -- the first n cells of a layer were looked at
  pub record KeepsOf (layer next : List Cell) (n : ℕ) (kept : List Cell) : Type 0 where
    pub lead : (c : Cell) → Contains kept c → Contains layer c × LeadsInto grid fixed t c next
    pub whole : (k : ℕ) → k < n → LeadsInto grid fixed t (get_or layer k no_cell) next → Contains kept (get_or layer k no_cell)

  pub none_kept : (layer next : List Cell) → KeepsOf layer next 0 []
  none_kept layer next = record { lead = λ c h. absurd (omega (arith, h.1)); whole = λ k h. absurd (omega (arith, h)) }

  pub left_out : (layer next : List Cell) (n : ℕ) (kept : List Cell) (from : Cell) → KeepsOf layer next n kept → get_or layer n no_cell ≡ from → ¬ LeadsInto grid fixed t from next → KeepsOf layer next (n + 1) kept
  left_out layer next n kept from so is none = record {
    lead = so.lead;
    whole = below_more (λ k. LeadsInto grid fixed t (get_or layer k no_cell) next → Contains kept (get_or layer k no_cell)) n so.whole (λ leads. absurd (none (subst (λ c. LeadsInto grid fixed t c next) is leads)));
  }

  pub one_kept : (layer next : List Cell) (n : ℕ) (kept new : List Cell) (from : Cell) → KeepsOf layer next n kept → n < length layer → get_or layer n no_cell ≡ from → LeadsInto grid fixed t from next → new ≡ kept ++ from ∷ [] → KeepsOf layer next (n + 1) new
  one_kept layer next n kept new from so inside is leads e = subst (KeepsOf layer next (n + 1)) (sym e) (record {
    lead = λ c there. ⊎_elim (so.lead c)
        (λ same. (subst (Contains layer) (is ∙ same) (Contains-get_or layer n no_cell inside), subst (λ x. LeadsInto grid fixed t x next) same leads))
        (Contains-push_cases kept from c there);
    whole = below_more (λ k. LeadsInto grid fixed t (get_or layer k no_cell) next → Contains (kept ++ from ∷ []) (get_or layer k no_cell)) n
        (λ k h l. Contains-append_left kept (from ∷ []) _ (so.whole k h l))
        (λ _. subst (Contains (kept ++ from ∷ [])) (sym is) (Contains-push kept from));
  })

  pub all_kept : (layer next : List Cell) (n : ℕ) (kept : List Cell) → KeepsOf layer next n kept → length layer ≤ n → IsKept grid fixed t layer next kept
  all_kept layer next n kept so all = record {
    lead = so.lead;
    whole = λ c there leads.
        let p = found_at layer c there in
        subst (Contains kept) p.2 (so.whole p.0 (omega (arith, p.1, all)) (subst (λ x. LeadsInto grid fixed t x next) (sym p.2) leads));
  }

-- ---- lists in which one is written over
row_written : (rows : List (List Cell)) (i : ℕ) (row : List Cell) → i < length rows → row_of (slice_set rows i row) i ≡ row
row_written rows i row inside = get_or-set_same rows i row [] inside

row_kept : (rows : List (List Cell)) (i k : ℕ) (row : List Cell) → k ≢ i → row_of (slice_set rows i row) k ≡ row_of rows k
row_kept rows i k row other = get_or-set_other rows i k row [] other

module _ (grid : OccupancyGrid) (fixed : List (List Cell)) (task : Task) where
  led_for : (n m t : ℕ) (c : Cell) → n ≡ m → LeadsTo grid fixed task.goal n t c → LeadsTo grid fixed task.goal m t c
  led_for n m t c e = subst (λ (k : ℕ). LeadsTo grid fixed task.goal k t c) e

  -- from the tick on the layers lead to the goal
  pub record AreWaysFrom (old : List (List Cell)) (m : ℕ) (layers : List (List Cell)) : Type 0 where
    pub count : length layers ≡ length old
    pub within : m < length old
    pub ways : HasWays grid fixed task layers
    pub lead : (t : ℕ) (c : Cell) → m ≤ t → t < length layers → Contains (row_of layers t) c → LeadsTo grid fixed task.goal (length layers - 1 - t) t c

  -- a layer is written over: what it has is reached, and it has what is reached and leads on
  written : (layers : List (List Cell)) (i : ℕ) (row : List Cell) → HasWays grid fixed task layers → i < length layers
      → ((c : Cell) → Contains row c → IsReached grid fixed task.start i c)
      → ((c : Cell) → IsReached grid fixed task.start i c → LeadsTo grid fixed task.goal (length layers - 1 - i) i c → Contains row c)
      → HasWays grid fixed task (slice_set layers i row)
  written layers i row so inside reached whole = record {
    some = omega (arith, len, so.some);
    reached = λ t c h there. ⊎_elim (here_reached t c there) (other_reached t c h there) (cases_eq t i);
    whole = λ t c h r l. ⊎_elim (here_whole t c r l) (other_whole t c h r l) (cases_eq t i);
  }
    where
      len : length (slice_set layers i row) ≡ length layers
      len = length-set layers i row

      here_reached : (t : ℕ) (c : Cell) → Contains (row_of (slice_set layers i row) t) c → t ≡ i → IsReached grid fixed task.start t c
      here_reached t c there is =
          subst (λ n. IsReached grid fixed task.start n c) (sym is) (reached c (subst (λ r. Contains r c) (row_written layers i row inside) (subst (λ n. Contains (row_of (slice_set layers i row) n) c) is there)))

      other_reached : (t : ℕ) (c : Cell) → t < length (slice_set layers i row) → Contains (row_of (slice_set layers i row) t) c → t ≢ i → IsReached grid fixed task.start t c
      other_reached t c h there other = so.reached t c (omega (arith, h, len)) (subst (λ r. Contains r c) (row_kept layers i t row other) there)

      here_whole : (t : ℕ) (c : Cell) → IsReached grid fixed task.start t c → LeadsTo grid fixed task.goal (length (slice_set layers i row) - 1 - t) t c → t ≡ i → Contains (row_of (slice_set layers i row) t) c
      here_whole t c r l is =
          let l' : LeadsTo grid fixed task.goal (length layers - 1 - t) t c = led_for _ (length layers - 1 - t) t c (omega (arith, len)) l in
          subst (λ n. Contains (row_of (slice_set layers i row) n) c) (sym is) (subst (λ r. Contains r c) (sym (row_written layers i row inside))
          (whole c (subst (λ n. IsReached grid fixed task.start n c) is r) (subst (λ n. LeadsTo grid fixed task.goal (length layers - 1 - n) n c) is l')))

      other_whole : (t : ℕ) (c : Cell) → t < length (slice_set layers i row) → IsReached grid fixed task.start t c → LeadsTo grid fixed task.goal (length (slice_set layers i row) - 1 - t) t c → t ≢ i → Contains (row_of (slice_set layers i row) t) c
      other_whole t c h r l other =
          subst (λ r. Contains r c) (sym (row_kept layers i t row other)) (so.whole t c (omega (arith, h, len)) r (led_for _ (length layers - 1 - t) t c (omega (arith, len)) l))

  -- the goal alone is left in the last layer
  pub only_goal : (old new : List (List Cell)) (last : ℕ) → HasWays grid fixed task old → IsReached grid fixed task.start (length old - 1) task.goal → last ≡ length old - 1 → new ≡ slice_set old last (task.goal ∷ []) → AreWaysFrom old last new
  only_goal old new last so goal is e = subst (AreWaysFrom old last) (sym e) (record {
    count = len;
    within = omega (arith, is, so.some);
    ways = written old last (task.goal ∷ []) so (omega (arith, is, so.some))
        (λ c there. subst (λ x. IsReached grid fixed task.start last x) (alone c there) (subst (λ n. IsReached grid fixed task.start n task.goal) (sym is) goal))
        (λ c r l. let at_goal : c ≡ task.goal = led_for _ 0 last c (omega (arith, is)) l in (0, omega arith, sym at_goal));
    lead = λ t c low h there.
        let t_is : t ≡ last = omega (arith, low, h, len, is) in
        let here = subst (λ r. Contains r c) (row_written old last (task.goal ∷ []) (omega (arith, is, so.some))) (subst (λ n. Contains (row_of (slice_set old last (task.goal ∷ [])) n) c) t_is there) in
        led_for 0 _ t c (omega (arith, len, is, t_is)) (sym (alone c here));
  })
    where
      len : length (slice_set old last (task.goal ∷ [])) ≡ length old
      len = length-set old last (task.goal ∷ [])

      alone : (c : Cell) → Contains (task.goal ∷ []) c → task.goal ≡ c
      alone c (zero, h, e) = e
      alone c (suc k, h, e) = absurd (omega (arith, h))

  -- one layer more
  pub one_back : (old layers new : List (List Cell)) (m t : ℕ) (kept : List Cell) → AreWaysFrom old m layers → m ≡ suc t → IsKept grid fixed t (row_of layers t) (row_of layers (t + 1)) kept → new ≡ slice_set layers t kept → AreWaysFrom old t new
  one_back old layers new m t kept so next is e = subst (AreWaysFrom old t) (sym e) (record {
    count = len ∙ so.count;
    within = omega (arith, next, so.within);
    ways = written layers t kept so.ways inside
        (λ c there. so.ways.reached t c inside (is.lead c there).0)
        (λ c r l. is.whole c (so.ways.whole t c inside r l) (into c r (led_for _ (suc (length layers - 1 - suc t)) t c (omega (arith, next, so.within, so.count)) l)));
    lead = λ s c low h there. ⊎_elim (here s c there) (later s c low h there) (cases_eq s t);
  })
    where
      inside : t < length layers
      inside = omega (arith, next, so.within, so.count)

      len : length (slice_set layers t kept) ≡ length layers
      len = length-set layers t kept

      next_row : row_of layers (suc t) ≡ row_of layers (t + 1)
      next_row = ap (row_of layers) (omega arith)

      into : (c : Cell) → IsReached grid fixed task.start t c → LeadsTo grid fixed task.goal (suc (length layers - 1 - suc t)) t c → LeadsInto grid fixed t c (row_of layers (t + 1))
      into c r l = (l.0, subst (λ row. Contains row l.0) next_row (so.ways.whole (suc t) l.0 (omega (arith, next, so.within, so.count)) (c, r, l.1) l.2), l.1)

      here : (s : ℕ) (c : Cell) → Contains (row_of (slice_set layers t kept) s) c → s ≡ t → LeadsTo grid fixed task.goal (length (slice_set layers t kept) - 1 - s) s c
      here s c there s_is =
          let mine : Contains kept c = subst (λ r. Contains r c) (row_written layers t kept inside) (subst (λ n. Contains (row_of (slice_set layers t kept) n) c) s_is there) in
          let step = (is.lead c mine).1 in
          let on = so.lead (suc t) step.0 (omega (arith, next)) (omega (arith, next, so.within, so.count)) (subst (λ row. Contains row step.0) (sym next_row) step.1) in
          subst (λ n. LeadsTo grid fixed task.goal (length (slice_set layers t kept) - 1 - n) n c) (sym s_is)
          (led_for (suc (length layers - 1 - suc t)) _ t c (omega (arith, next, so.within, so.count, len)) (step.0, step.2, on))

      later : (s : ℕ) (c : Cell) → t ≤ s → s < length (slice_set layers t kept) → Contains (row_of (slice_set layers t kept) s) c → s ≢ t → LeadsTo grid fixed task.goal (length (slice_set layers t kept) - 1 - s) s c
      later s c low h there other =
          let low' : m ≤ s = omega (arith, low, next, other) in
          led_for (length layers - 1 - s) _ s c (omega (arith, len)) (so.lead s c low' (omega (arith, h, len)) (subst (λ r. Contains r c) (row_kept layers t s kept other) there))

  -- all layers lead to the goal
  pub all_ways : (old layers : List (List Cell)) (m : ℕ) → AreWaysFrom old m layers → m ≡ 0 → AreWays grid fixed task layers
  all_ways old layers m so e = record { ways = so.ways; lead = λ t c h there. so.lead t c (omega (arith, e)) h there }

  -- the robot may stand in the cells of a layer
  pub ways_stood : (layers : List (List Cell)) → HasWays grid fixed task layers → (t : ℕ) → t < length layers → AreStood grid fixed t (row_of layers t)
  ways_stood layers so t inside c there =
      let r = so.reached t c inside there in
      (reached_free grid fixed task.start t c r, reached_clear grid fixed task.start t c r)

  -- ---- the least way, a cell at a time
  pub record IsLedBy (layers : List (List Cell)) (t : ℕ) (here : Cell) (path : List Cell) : Type 0 where
    pub within : t < length layers
    pub reached : IsReached grid fixed task.start t here
    pub leads : LeadsTo grid fixed task.goal (length layers - 1 - t) t here
    pub led : (rest : List Cell) → length rest ≡ length layers - 1 - t → IsLeastWay grid fixed task.goal t here rest
        → (way : List Cell) × (path ++ rest ≡ task.start ∷ way) × (suc (length way) ≡ length layers) × IsLeastWay grid fixed task.goal 0 task.start way

  pub led_begin : (layers : List (List Cell)) (path : List Cell) → 1 ≤ length layers → IsReached grid fixed task.start 0 task.start → LeadsTo grid fixed task.goal (length layers - 1) 0 task.start → path ≡ task.start ∷ [] → IsLedBy layers 0 task.start path
  led_begin layers path some reached leads e = subst (IsLedBy layers 0 task.start) (sym e) (record {
    within = omega (arith, some);
    reached = reached;
    leads = led_for (length layers - 1) _ 0 task.start (omega arith) leads;
    led = λ rest len least. (rest, refl, omega (arith, len, some), least);
  })

  module _ (layers : List (List Cell)) (ways : AreWays grid fixed task layers) (t : ℕ) (here : Cell) (path : List Cell) (so : IsLedBy layers t here path) where
    pub led_stood : IsTrue (is_free grid here) × IsClear fixed t here
    led_stood = (reached_free grid fixed task.start t here so.reached, reached_clear grid fixed task.start t here so.reached)

    next_row : row_of layers (suc t) ≡ row_of layers (t + 1)
    next_row = ap (row_of layers) (omega arith)

    next_there : (d : Cell) → suc t < length layers → MayStep grid fixed t here d → LeadsTo grid fixed task.goal (length layers - 1 - suc t) (suc t) d → Contains (row_of layers (t + 1)) d
    next_there d more step leads = subst (λ row. Contains row d) next_row (ways.ways.whole (suc t) d more (here, so.reached, step) leads)

    pub led_into : t < length layers - 1 → LeadsInto grid fixed t here (row_of layers (t + 1))
    led_into more =
        let l : LeadsTo grid fixed task.goal (suc (length layers - 1 - suc t)) t here = led_for _ (suc (length layers - 1 - suc t)) t here (omega (arith, more)) so.leads in
        (l.0, next_there l.0 (omega (arith, more)) l.1 l.2, l.1)

    pub led_on : (d : Cell) (new : List Cell) → t < length layers - 1 → IsLeastInto grid fixed t here (row_of layers (t + 1)) d → new ≡ path ++ d ∷ [] → IsLedBy layers (t + 1) d new
    led_on d new more is e = subst (IsLedBy layers (t + 1) d) (sym e) (record {
      within = omega (arith, more);
      reached = subst (λ n. IsReached grid fixed task.start n d) after (here, so.reached, is.step);
      leads = subst (λ n. LeadsTo grid fixed task.goal (length layers - 1 - n) n d) after leads;
      led = λ rest len least.
          let way = so.led (d ∷ rest) (omega (arith, len, more)) (step rest (omega (arith, len)), subst (λ n. IsLeastWay grid fixed task.goal n d rest) (sym after) least) in
          (way.0, append_assoc path (d ∷ []) rest ∙ way.1, way.2, way.3);
    })
      where
        after : suc t ≡ t + 1
        after = omega arith

        leads : LeadsTo grid fixed task.goal (length layers - 1 - suc t) (suc t) d
        leads = ways.lead (suc t) d (omega (arith, more)) (subst (λ row. Contains row d) (sym next_row) is.there)

        step : (rest : List Cell) → length rest ≡ length layers - 1 - suc t → IsLeastStep grid fixed task.goal (length rest) t here d
        step rest len = record {
          step = is.step;
          leads = led_for _ (length rest) (suc t) d (sym len) leads;
          least = λ x may on. is.least x (next_there x (omega (arith, more)) may (led_for (length rest) _ (suc t) x len on)) may;
        }

    pub led_end : t ≡ length layers - 1 → IsLeastPath grid fixed task (length layers) path
    led_end last =
        let at_goal : here ≡ task.goal = led_for _ 0 t here (omega (arith, last)) so.leads in
        let way = so.led [] (omega (arith, last)) at_goal in
        record { way = way.0; cells = sym (append-nil path) ∙ way.1; ticks = way.2; least = way.3 }
