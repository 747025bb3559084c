-- Ticks that are raised in place, visit by visit.
use Rattle.std.proofs.Common.{ℕ, suc, zero, ◌≡◌, ◌≢◌, ◌+◌, ◌*◌, ◌<◌, ◌≤◌, ◌⊎◌, max, List, [], ◌∷◌, Some, None, Option, true, false, Bool, cond, refl, sym, ap, ◌∙◌, subst, inl, inr, arith, length, map, set, get_or}
use Rattle.std.proofs.lemmas.Bool.{cases_lt, cases_eq, lt-ltb, le-ltb}
use Rattle.std.proofs.lemmas.List.{get_or-map, get_or-set_same, get_or-set_other}
use Rattle.fleet_base.specs.declared.geometry.Visit.{Visit}
use Rattle.fleet_base.specs.declared.order.Side.{Side}
use Rattle.fleet_base.specs.Lists.{row_of}
use Rattle.fleet_base.specs.Pairs.{same_visit}
use Rattle.fleet_base.specs.Order.{Graph, IsVisit, IsSorted, last_in}
use Rattle.fleet_base.specs.State.{FleetState, arrived_count, released_count, arrival_tick_of, release_tick_of, duration_of}
use Rattle.fleet_base.specs.Rules.{IsFleetState}
use Rattle.fleet_base.specs.Schedule.{IsLeastSchedule, own_tick, IsBelowAll}
use Rattle.plan_graph.specs.Limits.{visit_count, IsGraphWithinLimits}
use Rattle.plan_graph.proofs.PlanGraphs.{index_within}
use Rattle.fleet_base.specs.declared.order.Edge.{Edge}
use Rattle.fleet_base.specs.Paths.{edge_in}
use Rattle.fleet_base.proofs.Places.{same_visit_is, same_visit_refl}
use Rattle.fleet_base.specs.Open.{KeepsClosed}
use Rattle.fleet_base.specs.VisitRows.{tick_in, AreRowsFor, KeepsRows}
use Rattle.cert_check.specs.Rounds.{along_bound, edge_bound, pair_bound, raised, rounds, IsPast, IsBelow, HasRounds, IsSettled, Raises, RaisesAll}
use Rattle.cert_check.proofs.Least.{raised_le, raised_below, raised_arrived, raised_ahead, nothing_to_raise, settled}

-- ---- rows of ticks

pub set_same : (rows : List (List ℕ)) (v : Visit) (t : ℕ) → v.robot < length rows → v.index < length (row_of rows v.robot) → tick_in (set rows v.robot (set (row_of rows v.robot) v.index t)) v ≡ t
set_same rows v t a b = ap (λ (r : List ℕ). get_or r v.index 0) (get_or-set_same rows v.robot (set (row_of rows v.robot) v.index t) [] a) ∙ get_or-set_same (row_of rows v.robot) v.index t 0 b

pub set_other : (rows : List (List ℕ)) (v : Visit) (t : ℕ) (u : Visit) → v.robot < length rows → ¬ (u ≡ v) → tick_in (set rows v.robot (set (row_of rows v.robot) v.index t)) u ≡ tick_in rows u
set_other rows v t u a ne = go (cases_eq u.robot v.robot)
  where
    same_row : u.robot ≡ v.robot → u.index ≢ v.index
    same_row e f = ne (λ j. record { robot = e j; index = f j })

    go : (u.robot ≡ v.robot) ⊎ (u.robot ≡ v.robot → ⊥) → tick_in (set rows v.robot (set (row_of rows v.robot) v.index t)) u ≡ tick_in rows u
    go (inr n) = ap (λ (r : List ℕ). get_or r u.index 0) (get_or-set_other rows v.robot u.robot (set (row_of rows v.robot) v.index t) [] n)
    go (inl e) = ap (λ i. get_or (get_or (set rows v.robot (set (row_of rows v.robot) v.index t)) i []) u.index 0) e ∙ ap (λ (r : List ℕ). get_or r u.index 0) (get_or-set_same rows v.robot (set (row_of rows v.robot) v.index t) [] a) ∙ get_or-set_other (row_of rows v.robot) v.index u.index t 0 (same_row e) ∙ ap (λ i. get_or (row_of rows i) u.index 0) (sym e)

pub lengths_set : (rows : List (List ℕ)) (i : ℕ) (row : List ℕ) → length row ≡ length (row_of rows i) → map length (set rows i row) ≡ map length rows
lengths_set [] i row e = refl
lengths_set (r ∷ rows) zero row e = ap (λ n. n ∷ map length rows) e
lengths_set (r ∷ rows) (suc i) row e = ap (λ (ns : List ℕ). length r ∷ ns) (lengths_set rows i row e)

length-map_length : (rows : List (List ℕ)) → length (map length rows) ≡ length rows
length-map_length [] = refl
length-map_length (r ∷ rows) = ap suc (length-map_length rows)

length-map_more : (ns : List ℕ) → length (map (λ n. n + 1) ns) ≡ length ns
length-map_more [] = refl
length-map_more (n ∷ ns) = ap suc (length-map_more ns)

-- a row for each robot, as long as it has visits
pub has_ticks_of : (g : Graph) (rows : List (List ℕ)) → map length rows ≡ map (λ last. last + 1) g.lasts → AreRowsFor g rows
has_ticks_of g rows e =
    let robots : length rows ≡ length g.lasts = sym (length-map_length rows) ∙ ap length e ∙ length-map_more g.lasts in
    record {
      robots = robots;
      visits = λ i h. sym (get_or-map length rows i [] 0 (omega (arith, h, robots))) ∙ ap (λ (ns : List ℕ). get_or ns i 0) e ∙ get_or-map (λ last. last + 1) g.lasts i 0 0 h;
    }

pub has_ticks_kept : (g : Graph) (old new : List (List ℕ)) → AreRowsFor g old → KeepsRows old new → AreRowsFor g new
has_ticks_kept g old new has keeps =
    let robots : length new ≡ length g.lasts = sym (length-map_length new) ∙ ap length keeps ∙ length-map_length old ∙ has.robots in
    record {
      robots = robots;
      visits = λ i h. sym (get_or-map length new i [] 0 (omega (arith, h, robots))) ∙ ap (λ (ns : List ℕ). get_or ns i 0) keeps ∙ get_or-map length old i [] 0 (omega (arith, h, has.robots)) ∙ has.visits i h;
    }

module _ (g : Graph) (x : FleetState) (order : ℕ → Option Side) where
  -- ---- a round on its way

  abbrev pub IsDone : ℕ → ℕ → Visit → Type 0
  IsDone robot index v = (v.robot < robot) ⊎ ((v.robot ≡ robot) × (v.index < index))

  pub record Raising (old new : Visit → ℕ) (robot index : ℕ) (raises : Bool) : Type 0 where
    pub low : IsBelowAll g x order old → IsBelowAll g x order new
    pub past : IsPast g x old → IsPast g x new
    pub grow : (v : Visit) → old v ≤ new v
    pub round : (n : ℕ) → HasRounds g x order n old → (v : Visit) → IsVisit g v → IsDone robot index v → rounds g x order (suc n) v ≤ new v
    pub bound : (b : ℕ) → 2000000000000 ≤ b → IsBelow b old → IsBelow (b + (robot * 65536 + index) * 1000001) new
    pub same : raises ≡ false → (v : Visit) → new v ≡ old v
    pub done : raises ≡ false → (v : Visit) → IsVisit g v → IsDone robot index v → raised g x order old v ≤ old v
    pub ends : (list : List Visit) → IsSorted g order list → IsBelowAll g x order old → HasRounds g x order (visit_count g) old → raises ≡ false

  -- so many rounds are done
  pub record Relaxing (n : ℕ) (f : Visit → ℕ) : Type 0 where
    pub low : IsBelowAll g x order f
    pub past : IsPast g x f
    pub round : HasRounds g x order n f
    pub bound : IsBelow (2000000000000 + n * (16777216 * 1000001)) f
    pub few : (list : List Visit) → IsSorted g order list → n ≤ visit_count g

-- ---- bounds

module _ (g : Graph) (x : FleetState) (order : ℕ → Option Side) (state : IsFleetState g x) where
  floor_below : (v : Visit) → own_tick x v ≤ 1000001000001
  floor_below v = go (cases_lt v.index (released_count x v.robot))
    where
      go : (v.index < released_count x v.robot) ⊎ (released_count x v.robot ≤ v.index) → own_tick x v ≤ 1000001000001
      go (inl r) =
          let e = ap (λ b. cond b (max x.clock (release_tick_of x v + duration_of x v)) (x.clock + duration_of x v)) (lt-ltb v.index (released_count x v.robot) r) in
          omega (arith, e, state.ticks.clock, state.ticks.releases_past v r, state.delays v)
      go (inr a) =
          let e = ap (λ b. cond b (max x.clock (release_tick_of x v + duration_of x v)) (x.clock + duration_of x v)) (le-ltb v.index (released_count x v.robot) a) in
          omega (arith, e, state.ticks.clock, state.delays v)

  module _ (f : Visit → ℕ) (b : ℕ) (below : IsBelow b f) (v : Visit) where
    along_below : (k : ℕ) → along_bound x f v k ≤ b + 1000001
    along_below zero = omega arith
    along_below (suc k) = omega (arith, below (record { robot = v.robot; index = k }), state.delays v)

    pub edge_below : (o : Option Edge) → edge_bound x f v o ≤ b + 1000001
    edge_below None = omega arith
    edge_below (Some e) = go (same_visit e.head v)
      where
        go : (t : Bool) → cond t (f e.tail + duration_of x v) 0 ≤ b + 1000001
        go true = omega (arith, below e.tail, state.delays v)
        go false = omega arith

    pairs_below : (n : ℕ) → pair_bound g x order f v n ≤ b + 1000001
    pairs_below zero = omega arith
    pairs_below (suc n) = omega (arith, edge_below (edge_in g order n), pairs_below n)

    pub raised_bound : 2000000000000 ≤ b → raised g x order f v ≤ b + 1000001
    raised_bound large = go (cases_lt v.index (arrived_count x v.robot))
      where
        go : (v.index < arrived_count x v.robot) ⊎ (arrived_count x v.robot ≤ v.index) → raised g x order f v ≤ b + 1000001
        go (inl a) = omega (arith, large, raised_arrived g x order f v a, state.ticks.arrivals_past v a, state.ticks.clock)
        go (inr a) = omega (arith, large, raised_ahead g x order f v a, floor_below v, along_below v.index, pairs_below (length g.pairs))

  pub raising_start : (old : Visit → ℕ) → Raising g x order old old 0 0 false
  raising_start old = record {
    low = λ h. h;
    past = λ h. h;
    grow = λ v. omega arith;
    round = λ n h v is d. absurd (nothing v d);
    bound = λ b l h v. omega (arith, h v);
    same = λ e v. refl;
    done = λ e v is d. absurd (nothing v d);
    ends = λ list s l r. refl;
  }
    where
      nothing : (v : Visit) → IsDone g x order 0 0 v → ⊥
      nothing v (inl h) = omega (arith, h)
      nothing v (inr h) = omega (arith, h.1)

  module _ (limits : IsGraphWithinLimits g) (old new : Visit → ℕ) (robot : ℕ) (raises : Bool) where
    pub raising_row : robot < length g.lasts → Raising g x order old new robot (last_in g robot + 1) raises → Raising g x order old new (robot + 1) 0 raises
    raising_row there r = record {
      low = r.low;
      past = r.past;
      grow = r.grow;
      round = λ n h v is d. r.round n h v is (earlier v is d);
      bound = λ b l h v. omega (arith, r.bound b l h v, index_within g limits (record { robot = robot; index = last_in g robot }) (record { robot = there; index = omega arith }));
      same = r.same;
      done = λ e v is d. r.done e v is (earlier v is d);
      ends = r.ends;
    }
      where
        earlier : (v : Visit) → IsVisit g v → IsDone g x order (robot + 1) 0 v → IsDone g x order robot (last_in g robot + 1) v
        earlier v is (inr h) = absurd (omega (arith, h.1))
        earlier v is (inl h) = go (cases_lt v.robot robot)
          where
            go : (v.robot < robot) ⊎ (robot ≤ v.robot) → IsDone g x order robot (last_in g robot + 1) v
            go (inl lt) = inl lt
            go (inr le) = let e : v.robot ≡ robot = omega (arith, h, le) in inr (e, omega (arith, is.index, ap (last_in g) e))

  module _ (keeps : KeepsClosed g x order) (old mid new : Visit → ℕ) (robot index : ℕ) (before raises after : Bool) (v : Visit) where
    -- one visit more
    pub raising_step : v.robot ≡ robot → v.index ≡ index → IsVisit g v → Raising g x order old mid robot index before → Raises g x order mid new v raises → after ≡ cond raises true before → Raising g x order old new robot (index + 1) after
    raising_step er ei iv r one flag = record {
      low = λ h t schedule obeys u is. low h t schedule obeys u is;
      past = λ h u is a. past h u is a;
      grow = λ u. omega (arith, r.grow u, grows u);
      round = λ n h u is d. round n h u is d;
      bound = λ b l h u. bound b l h u;
      same = λ e u. same e u;
      done = λ e u is d. done e u is d;
      ends = λ list s l h. ends list s l h;
    }
      where
        -- each visit is this one or another
        is_it : (u : Visit) → (u ≡ v) ⊎ (¬ (u ≡ v))
        is_it u = go (same_visit u v) refl
          where
            go : (b : Bool) → same_visit u v ≡ b → (u ≡ v) ⊎ (¬ (u ≡ v))
            go true e = inl (same_visit_is u v e)
            go false e = inr (λ s. let t = same_visit_refl u v s in cc)

        here : (u : Visit) → u ≡ v → new u ≡ max (mid u) (raised g x order mid u)
        here u e = subst (λ (w : Visit). new w ≡ max (mid w) (raised g x order mid w)) (sym e) one.here

        grows : (u : Visit) → mid u ≤ new u
        grows u = go (is_it u)
          where
            go : (u ≡ v) ⊎ (¬ (u ≡ v)) → mid u ≤ new u
            go (inl e) = omega (arith, here u e)
            go (inr n) = omega (arith, one.there u n)

        low : IsBelowAll g x order old → IsBelowAll g x order new
        low h t schedule obeys u is = go (is_it u)
          where
            go : (u ≡ v) ⊎ (¬ (u ≡ v)) → new u ≤ t u
            go (inl e) = omega (arith, here u e, r.low h t schedule obeys u is, raised_below g x order state keeps t schedule obeys mid (λ w iw. r.low h t schedule obeys w iw) u is)
            go (inr n) = omega (arith, one.there u n, r.low h t schedule obeys u is)

        past : IsPast g x old → IsPast g x new
        past h u is a = go (is_it u)
          where
            go : (u ≡ v) ⊎ (¬ (u ≡ v)) → new u ≤ arrival_tick_of x u
            go (inl e) = omega (arith, here u e, r.past h u is a, raised_arrived g x order mid u a)
            go (inr n) = omega (arith, one.there u n, r.past h u is a)

        round : (n : ℕ) → HasRounds g x order n old → (u : Visit) → IsVisit g u → IsDone g x order robot (index + 1) u → rounds g x order (suc n) u ≤ new u
        round n h u is d = go (is_it u)
          where
            go : (u ≡ v) ⊎ (¬ (u ≡ v)) → rounds g x order (suc n) u ≤ new u
            go (inl e) = omega (arith, here u e, raised_le g x order state keeps (rounds g x order n) mid u is (λ w iw b. omega (arith, h w iw, r.grow w)))
            go (inr m) = omega (arith, grows u, r.round n h u is (earlier u m d))
              where
                earlier : (u : Visit) → ¬ (u ≡ v) → IsDone g x order robot (index + 1) u → IsDone g x order robot index u
                earlier u m (inl lt) = inl lt
                earlier u m (inr (e, lt)) = inr (e, at (cases_eq u.index index))
                  where
                    at : (u.index ≡ index) ⊎ (u.index ≡ index → ⊥) → u.index < index
                    at (inl f) = absurd (m (λ j. record { robot = (e ∙ sym er) j; index = (f ∙ sym ei) j }))
                    at (inr k) = omega (arith, lt, k)

        earlier : (u : Visit) → ¬ (u ≡ v) → IsDone g x order robot (index + 1) u → IsDone g x order robot index u
        earlier u m (inl lt) = inl lt
        earlier u m (inr (e, lt)) = inr (e, at (cases_eq u.index index))
          where
            at : (u.index ≡ index) ⊎ (u.index ≡ index → ⊥) → u.index < index
            at (inl f) = absurd (m (λ j. record { robot = (e ∙ sym er) j; index = (f ∙ sym ei) j }))
            at (inr k) = omega (arith, lt, k)

        bound : (b : ℕ) → 2000000000000 ≤ b → IsBelow b old → IsBelow (b + (robot * 65536 + (index + 1)) * 1000001) new
        bound b l h u = go (is_it u)
          where
            go : (u ≡ v) ⊎ (¬ (u ≡ v)) → new u ≤ b + (robot * 65536 + (index + 1)) * 1000001
            go (inl e) = omega (arith, here u e, r.bound b l h u, raised_bound mid (b + (robot * 65536 + index) * 1000001) (r.bound b l h) u (omega (arith, l)))
            go (inr n) = omega (arith, one.there u n, r.bound b l h u)

        both : after ≡ false → (raises ≡ false) × (before ≡ false)
        both e = go raises before (sym flag ∙ e)
          where
            go : (a b : Bool) → cond a true b ≡ false → (a ≡ false) × (b ≡ false)
            go true b k = cc
            go false b k = (refl, k)

        same : after ≡ false → (u : Visit) → new u ≡ old u
        same e u = go (is_it u)
          where
            go : (u ≡ v) ⊎ (¬ (u ≡ v)) → new u ≡ old u
            go (inl s) = omega (arith, here u s, subst (λ (w : Visit). raised g x order mid w ≤ mid w) (sym s) (one.was_not (both e).0), r.same (both e).1 u)
            go (inr n) = one.there u n ∙ r.same (both e).1 u

        done : after ≡ false → (u : Visit) → IsVisit g u → IsDone g x order robot (index + 1) u → raised g x order old u ≤ old u
        done e u is d = go (is_it u)
          where
            go : (u ≡ v) ⊎ (¬ (u ≡ v)) → raised g x order old u ≤ old u
            go (inl s) = omega (arith, subst (λ (w : Visit). raised g x order mid w ≤ mid w) (sym s) (one.was_not (both e).0), r.same (both e).1 u, raised_le g x order state keeps old mid u is (λ w iw b. r.grow w))
            go (inr n) = r.done (both e).1 u is (earlier u n d)

        ends : (list : List Visit) → IsSorted g order list → IsBelowAll g x order old → HasRounds g x order (visit_count g) old → after ≡ false
        ends list s l h = go raises refl
          where
            go : (a : Bool) → raises ≡ a → after ≡ false
            go false e = flag ∙ ap (λ b. cond b true before) e ∙ r.ends list s l h
            go true e = absurd (omega (arith, one.was_below e, nothing_to_raise g x order list state keeps s mid (r.low l) (λ w iw. omega (arith, h w iw, r.grow w)) v iv))

  -- the whole round
  pub raised_all : IsGraphWithinLimits g → (old new : Visit → ℕ) (raises : Bool) → Raising g x order old new (length g.lasts) 0 raises → RaisesAll g x order old new raises
  raised_all limits old new raises r = record {
    low = r.low;
    past = r.past;
    round = λ n h v is. r.round n h v is (inl is.robot);
    bound = λ b l h v. omega (arith, r.bound b l h v, limits.robots.1);
    settled = λ e v is. done e v is;
    ends = r.ends;
  }
    where
      done : raises ≡ false → IsSettled g x order new
      done e v is = go
        where
          go : raised g x order new v ≤ new v
          go = omega (arith, r.done e v is (inl is.robot), r.same e v, same_raised)
            where
              eq : new ≡ old
              eq = λ j u. r.same e u j

              same_raised : raised g x order new v ≡ raised g x order old v
              same_raised = ap (λ (f : Visit → ℕ). raised g x order f v) eq

  -- ---- rounds one after another

  pub relaxing_start : (f : Visit → ℕ) → ((v : Visit) → f v ≡ 0) → Relaxing g x order 0 f
  relaxing_start f zeros = record {
    low = λ t schedule obeys v is. omega (arith, zeros v);
    past = λ v is a. omega (arith, zeros v);
    round = λ v is. omega arith;
    bound = λ v. omega (arith, zeros v);
    few = λ list sorted. omega arith;
  }

  pub relaxing_more : (n : ℕ) (old new : Visit → ℕ) → Relaxing g x order n old → RaisesAll g x order old new true → Relaxing g x order (n + 1) new
  relaxing_more n old new r one = record {
    low = one.low r.low;
    past = one.past r.past;
    round = λ v is. subst (λ m. rounds g x order m v ≤ new v) (let z : suc n ≡ n + 1 = omega arith in z) (one.round n r.round v is);
    bound = λ v. omega (arith, one.bound (2000000000000 + n * (16777216 * 1000001)) (omega arith) r.bound v);
    few = λ list sorted. go list sorted (cases_lt n (visit_count g));
  }
    where
      go : (list : List Visit) → IsSorted g order list → (n < visit_count g) ⊎ (visit_count g ≤ n) → n + 1 ≤ visit_count g
      go list sorted (inl lt) = omega (arith, lt)
      go list sorted (inr ge) =
          let same : n ≡ visit_count g = omega (arith, ge, r.few list sorted) in
          let k = one.ends list sorted r.low (subst (λ m. HasRounds g x order m old) same r.round) in
          cc

  pub relaxing_done : KeepsClosed g x order → (n : ℕ) (old new : Visit → ℕ) → Relaxing g x order n old → RaisesAll g x order old new false → IsLeastSchedule g x order new
  relaxing_done keeps n old new r one =
      settled g x order state keeps new (one.low r.low) (λ v is a. let p = one.past r.past v is a in let q = one.settled refl v is in omega (arith, p, q, raised_arrived g x order new v a)) (one.settled refl)

  pub relaxing_ends : (n : ℕ) (f : Visit → ℕ) → Relaxing g x order n f → visit_count g + 1 ≤ n → (list : List Visit) → IsSorted g order list → ⊥
  relaxing_ends n f r h list sorted = omega (arith, h, r.few list sorted)
