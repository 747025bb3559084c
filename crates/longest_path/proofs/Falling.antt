-- A visit that waits falls to its earliest tick, and wakes those that rested on it.
use Rattle.std.proofs.Common.{ℕ, ◌≡◌, ◌≢◌, ◌+◌, ◌*◌, ◌^◌, ◌<◌, ◌≤◌, ◌⊎◌, List, Option, Some, Bool, true, false, refl, sym, ap, ◌∙◌, subst, inl, inr, arith, length}
use Rattle.std.specs.Prelude.{slice_get, Contains}
use Rattle.std.proofs.lemmas.Bool.{cases_lt, cases_eq}
use Rattle.fleet_base.specs.declared.geometry.Visit.{Visit}
use Rattle.fleet_base.specs.declared.order.PairId.{PairId}
use Rattle.fleet_base.specs.declared.order.Side.{Side}
use Rattle.fleet_base.specs.Order.{Graph, IsVisit, HasEdge, Before, next_visit}
use Rattle.fleet_base.specs.State.{FleetState, arrived_count, duration_of}
use Rattle.fleet_base.specs.Rules.{IsFleetState}
use Rattle.fleet_base.specs.Schedule.{ObeysEdge, IsLeastSchedule, own_tick}
use Rattle.fleet_base.proofs.Edges.{head_there}
use Rattle.fleet_base.proofs.Members.{place_of_element}
use Rattle.fleet_base.specs.VisitRows.{tick_in, AreRowsFor}
use Rattle.plan_graph.specs.Limits.{visit_count, IsGraphWithinLimits}
use Rattle.longest_path.specs.Closed.{AgreesOnClosed}
use Rattle.longest_path.specs.Earliest.{IsEarliestAhead}
use Rattle.longest_path.specs.Kept.{AreSmall}
use Rattle.longest_path.specs.Cells.{HasCell, AreAlike, put, is_marked, mark_count, cell_count}
use Rattle.longest_path.specs.Rising.{Marked}
use Rattle.longest_path.specs.Falling.{HasReason, IsLowering, WasAdded, IsFalling, IsWaking, tick_total}
use Rattle.longest_path.proofs.Cells.{cell_put, cell_other, put_alike, alike_on, alike_sym, alike_cell, total_put, marks_within, marked_added}
use Rattle.longest_path.proofs.RowCounts.{rows_count}
use Rattle.longest_path.proofs.Levels.{before_arrived}
use Rattle.longest_path.proofs.Lowering.{lower_begins, lower_stays, lower_falls, lower_ends}
use Rattle.longest_path.proofs.Raising.{raised, same_or_differs}
use Rattle.longest_path.proofs.Reasons.{least_reason}
use Rattle.longest_path.proofs.Resting.{own_at_most}
use Rattle.longest_path.proofs.Working.{visit_cell, alike_rows, mark_added, mark_dropped}
use Rattle.longest_path.proofs.Handing.{put_raised}

module _ (g : Graph) (x : FleetState) (order : ℕ → Option Side) where
  -- the same wait, or more
  pub waits_more : (s : Visit → ℕ) (W V : Visit → Type 0) → ((w : Visit) → IsVisit g w → W w → V w) → IsLowering g x order s W → IsLowering g x order s V
  waits_more s W V to l = record { schedule = l.schedule; obeys = l.obeys; rests = λ v is n. go v is (l.rests v is n) }
    where
      go : (v : Visit) → IsVisit g v → HasReason g x order s v ⊎ W v → HasReason g x order s v ⊎ V v
      go v is (inl h) = inl h
      go v is (inr w) = inr (to v is w)

  -- marks on visits behind one
  module _ (v : Visit) (rows : List (List ℕ)) (old : List (List Bool)) where
    pub waking_begins : AreAlike rows old → IsWaking g order v rows old old
    waking_begins a = record { alike = a; stays = λ w m. m; only = λ w m. inl m }

    pub waking_on : (marks more : List (List Bool)) → IsWaking g order v rows old marks → IsWaking g order v rows marks more → IsWaking g order v rows old more
    waking_on marks more a b = record { alike = b.alike; stays = λ w m. b.stays w (a.stays w m); only = λ w m. go w (b.only w m) }
      where
        go : (w : Visit) → Marked marks w ⊎ (IsVisit g w × Before g order v w) → Marked old w ⊎ (IsVisit g w × Before g order v w)
        go w (inl m) = a.only w m
        go w (inr h) = inr h

    pub waking_next : (marks more : List (List Bool)) (w : Visit) (t : ℕ) → AreRowsFor g rows → IsWaking g order v rows old marks → IsVisit g w → Before g order v w → (tick_in rows w ≡ t → more ≡ put marks w true) → ((tick_in rows w ≡ t → ⊥) → more ≡ marks)
        → IsWaking g order v rows old more × (tick_in rows w ≡ t → Marked more w) × ((u : Visit) → Marked marks u → Marked more u)
    waking_next marks more w t are k iw b rests others = go (cases_eq (tick_in rows w) t)
      where
        has : HasCell marks w
        has = alike_cell rows marks w k.alike (visit_cell g rows w are iw)

        marked : IsWaking g order v rows old (put marks w true)
        marked = record {
          alike = alike_on rows marks (put marks w true) k.alike (put_alike marks w true has);
          stays = λ u m. marked_added marks w u has (k.stays u m);
          only = λ u m. of u (mark_added marks w u has m);
        }
          where
            of : (u : Visit) → (u ≡ w) ⊎ (is_marked marks u ≡ true) → Marked old u ⊎ (IsVisit g u × Before g order v u)
            of u (inl e) = inr (subst (λ (y : Visit). IsVisit g y) (sym e) iw, subst (λ (y : Visit). Before g order v y) (sym e) b)
            of u (inr m) = k.only u m

        go : (tick_in rows w ≡ t) ⊎ (tick_in rows w ≢ t) → IsWaking g order v rows old more × (tick_in rows w ≡ t → Marked more w) × ((u : Visit) → Marked marks u → Marked more u)
        go (inl e) = (
          subst (λ (m : List (List Bool)). IsWaking g order v rows old m) (sym (rests e)) marked,
          (λ _. ap (λ (m : List (List Bool)). is_marked m w) (rests e) ∙ cell_put marks w true false has),
          (λ u m. ap (λ (n : List (List Bool)). is_marked n u) (rests e) ∙ marked_added marks w u has m),
        )
        go (inr ne) = (
          subst (λ (m : List (List Bool)). IsWaking g order v rows old m) (sym (others ne)) k,
          (λ e. absurd (ne e)),
          (λ u m. ap (λ (n : List (List Bool)). is_marked n u) (others ne) ∙ m),
        )

-- the first so many pairs were looked at
abbrev pub AreWoken : Graph → FleetState → (ℕ → Option Side) → List (List ℕ) → Visit → ℕ → List (List Bool) → List PairId → ℕ → Type 0
AreWoken g x order rows v tick marks qs n = (k : ℕ) (q : PairId) (w : Visit) → k < n → slice_get qs k ≡ Some q → HasEdge g order q.0 v w → tick_in rows w ≡ tick + duration_of x w → Marked marks w

pub woken_next : (g : Graph) (x : FleetState) (order : ℕ → Option Side) (rows : List (List ℕ)) (v : Visit) (tick : ℕ) (marks more : List (List Bool)) (qs : List PairId) (n : ℕ) (q : PairId) → slice_get qs n ≡ Some q
    → ((w : Visit) → HasEdge g order q.0 v w → tick_in rows w ≡ tick + duration_of x w → Marked more w) → ((u : Visit) → Marked marks u → Marked more u) → AreWoken g x order rows v tick marks qs n → AreWoken g x order rows v tick more qs (n + 1)
woken_next g x order rows v tick marks more qs n q at here stays before k r w lt is e t = go (cases_lt k n)
  where
    go : (k < n) ⊎ (n ≤ k) → Marked more w
    go (inl less) = stays w (before k r w less is e t)
    go (inr most) =
        let same : k ≡ n = omega (arith, lt, most) in
        let it : slice_get qs n ≡ Some r = subst (λ i. slice_get qs i ≡ Some r) same is in
        let alike : r ≡ q = cc in
        here w (subst (λ (p : PairId). HasEdge g order p.0 v w) alike e) t

pub woken_all : (g : Graph) (x : FleetState) (order : ℕ → Option Side) (rows : List (List ℕ)) (v : Visit) (tick : ℕ) (marks : List (List Bool)) (qs : List PairId) (n : ℕ) → ((q : ℕ) (w : Visit) → HasEdge g order q v w → Contains qs (record { 0 = q })) → length qs ≤ n
    → AreWoken g x order rows v tick marks qs n → (q : ℕ) (w : Visit) → HasEdge g order q v w → tick_in rows w ≡ tick + duration_of x w → Marked marks w
woken_all g x order rows v tick marks qs n all long each q w e t =
    let p = place_of_element qs (record { 0 = q }) (all q w e) in
    each p.0 (record { 0 = q }) w (omega (arith, p.1, long)) p.2 e t

module _ (g : Graph) (x : FleetState) (state : IsFleetState g x) (order : ℕ → Option Side) (closed : AgreesOnClosed g x order) where
  -- an edge from a visit that has not arrived leads to one that has not
  pub ahead_on : (v w : Visit) → IsVisit g v → IsVisit g w → Before g order v w → arrived_count x v.robot ≤ v.index → arrived_count x w.robot ≤ w.index
  ahead_on v w iv iw b a = go (cases_lt w.index (arrived_count x w.robot))
    where
      go : (w.index < arrived_count x w.robot) ⊎ (arrived_count x w.robot ≤ w.index) → arrived_count x w.robot ≤ w.index
      go (inl h) = absurd (let k = before_arrived g x state order closed v w iv iw b h in let z = k.0 in omega (arith, z, a))
      go (inr n) = n

  -- at first the head alone waits
  pub falling_begins : (rows : List (List ℕ)) (marks : List (List Bool)) (head : Visit) → AreRowsFor g rows → AreAlike rows marks → AreSmall rows → ((v : Visit) → is_marked marks v ≡ false) → IsVisit g head → arrived_count x head.robot ≤ head.index → WasAdded g x order head (tick_in rows)
      → IsFalling g x order rows (put marks head true) (Marked (put marks head true))
  falling_begins rows marks head are alike small none is ahead was = record {
    are = are;
    alike = alike_on rows marks (put marks head true) alike (put_alike marks head true has);
    small = small;
    lowering = waits_more g x order (tick_in rows) (λ v. v ≡ head) (Marked (put marks head true)) (λ w iw e. ap (λ (y : Visit). is_marked (put marks head true) y) e ∙ cell_put marks head true false has)
        (lower_begins g x order was.more was.pair was.one was.tail head was.edge (tick_in rows) was.least (least_reason g x state was.more (tick_in rows) was.least));
    ahead = λ w m. go w (mark_added marks head w has m);
  }
    where
      has : HasCell marks head
      has = alike_cell rows marks head alike (visit_cell g rows head are is)

      go : (w : Visit) → (w ≡ head) ⊎ (is_marked marks w ≡ true) → arrived_count x w.robot ≤ w.index
      go w (inl e) = subst (λ (y : Visit). arrived_count x y.robot ≤ y.index) (sym e) ahead
      go w (inr m) = absurd (let z = none w in cc)

  module _ (rows : List (List ℕ)) (marks : List (List Bool)) where
    -- a visit is taken to be looked at
    pub falling_taken : (v : Visit) → Marked marks v → HasCell marks v → IsFalling g x order rows marks (Marked marks) → IsFalling g x order rows (put marks v false) (λ w. Marked (put marks v false) w ⊎ (w ≡ v))
    falling_taken v m has f = record {
      are = f.are;
      alike = alike_on rows marks (put marks v false) f.alike (put_alike marks v false has);
      small = f.small;
      lowering = waits_more g x order (tick_in rows) (Marked marks) (λ w. Marked (put marks v false) w ⊎ (w ≡ v)) (λ w iw h. to w h (same_or_differs w v)) f.lowering;
      ahead = λ w h. f.ahead w (back w h);
    }
      where
        to : (w : Visit) → Marked marks w → (w ≡ v) ⊎ (w ≢ v) → Marked (put marks v false) w ⊎ (w ≡ v)
        to w h (inl e) = inr e
        to w h (inr ne) = inl (cell_other marks v w false false has ne ∙ h)

        back : (w : Visit) → Marked (put marks v false) w ⊎ (w ≡ v) → Marked marks w
        back w (inl h) = (mark_dropped marks v w has h).1
        back w (inr e) = ap (λ (y : Visit). is_marked marks y) e ∙ m

    module _ (v : Visit) (iv : IsVisit g v) (f : IsFalling g x order rows marks (λ w. Marked marks w ⊎ (w ≡ v))) where
      -- it is as late as it has to be
      pub falling_stays : IsEarliestAhead g x order (tick_in rows) v (tick_in rows v) → IsFalling g x order rows marks (Marked marks)
      falling_stays e = record {
        are = f.are;
        alike = f.alike;
        small = f.small;
        lowering = waits_more g x order (tick_in rows) (λ w. (Marked marks w ⊎ (w ≡ v)) × (w ≢ v)) (Marked marks) (λ w iw h. only w h.0 h.1) (lower_stays g x order (tick_in rows) (λ w. Marked marks w ⊎ (w ≡ v)) f.lowering v e.one);
        ahead = λ w m. f.ahead w (inl m);
      }
        where
          only : (w : Visit) → Marked marks w ⊎ (w ≡ v) → w ≢ v → Marked marks w
          only w (inl m) ne = m
          only w (inr e) ne = absurd (ne e)

      ahead_v : arrived_count x v.robot ≤ v.index
      ahead_v = f.ahead v (inr refl)

      -- no earliest tick is later than the present one
      at_most : (m : ℕ) → IsEarliestAhead g x order (tick_in rows) v m → m ≤ tick_in rows v
      at_most m e = go e.one
        where
          kept : (u : Visit) → ObeysEdge x (tick_in rows) u v → tick_in rows u + duration_of x v ≤ tick_in rows v
          kept u (inl h) = absurd (let z = ahead_v in omega (arith, h, z))
          kept u (inr k) = k

          go : (m ≡ own_tick x v) ⊎ ((u : Visit) × IsVisit g u × Before g order u v × (m ≡ tick_in rows u + duration_of x v)) → m ≤ tick_in rows v
          go (inl h) = let z = own_at_most g x order (tick_in rows) f.lowering.schedule v iv ahead_v in omega (arith, h, z)
          go (inr (u, iu, b, h)) = let z = kept u (f.lowering.obeys u v iu iv b) in omega (arith, h, z)

      -- it falls
      module _ (m : ℕ) (e : IsEarliestAhead g x order (tick_in rows) v m) (ne : m ≢ tick_in rows v) (more : List (List Bool)) (waking : IsWaking g order v rows marks more)
          (woken : (w : Visit) → IsVisit g w → Before g order v w → tick_in rows w ≡ tick_in rows v + duration_of x w → Marked more w) where
        has : HasCell rows v
        has = visit_cell g rows v f.are iv

        lower : m < tick_in rows v
        lower = let z = at_most m e in omega (arith, z, ne)

        pub falling_falls : IsFalling g x order (put rows v m) more (Marked more)
        falling_falls = record {
          are = alike_rows g rows (put rows v m) f.are (put_alike rows v m has);
          alike = alike_on (put rows v m) rows more (alike_sym rows (put rows v m) (put_alike rows v m has)) waking.alike;
          small = small;
          lowering = waits_more g x order (tick_in (put rows v m)) (λ w. ((Marked marks w ⊎ (w ≡ v)) × (w ≢ v)) ⊎ (Before g order v w × (tick_in rows w ≡ tick_in rows v + duration_of x w))) (Marked more) to
              (subst (λ (s : Visit → ℕ). IsLowering g x order s (λ w. ((Marked marks w ⊎ (w ≡ v)) × (w ≢ v)) ⊎ (Before g order v w × (tick_in rows w ≡ tick_in rows v + duration_of x w)))) (put_raised rows v m has)
              (lower_falls g x order (tick_in rows) (λ w. Marked marks w ⊎ (w ≡ v)) f.lowering v m iv ahead_v e));
          ahead = λ w h. later w (waking.only w h);
        }
          where
            small : AreSmall (put rows v m)
            small u = go (same_or_differs u v)
              where
                go : (u ≡ v) ⊎ (u ≢ v) → tick_in (put rows v m) u < 2 * 10 ^ 12
                go (inl same) = let a = ap (tick_in (put rows v m)) same in omega (arith, a, cell_put rows v m 0 has, lower, f.small v)
                go (inr other) = omega (arith, cell_other rows v u m 0 has other, f.small u)

            to : (w : Visit) → IsVisit g w → ((Marked marks w ⊎ (w ≡ v)) × (w ≢ v)) ⊎ (Before g order v w × (tick_in rows w ≡ tick_in rows v + duration_of x w)) → Marked more w
            to w iw (inl (inl h, n)) = waking.stays w h
            to w iw (inl (inr h, n)) = absurd (n h)
            to w iw (inr (b, t)) = woken w iw b t

            later : (w : Visit) → Marked marks w ⊎ (IsVisit g w × Before g order v w) → arrived_count x w.robot ≤ w.index
            later w (inl h) = f.ahead w (inl h)
            later w (inr (iw, b)) = ahead_on v w iv iw b ahead_v

        pub falling_less : IsGraphWithinLimits g → mark_count more + 65537 * tick_total (put rows v m) ≤ mark_count marks + 65537 * tick_total rows
        falling_less limits =
            let t = total_put (λ n. n) rows v m 0 has in
            let few = marks_within more in
            let cells = rows_count {X = Bool} g more (alike_rows g rows more f.are waking.alike) in
            let l = lower in
            omega (arith, t, few, cells, limits.visits, l)

-- the step along the robot and the pairs are all edges out of a visit
pub woken_everywhere : (g : Graph) (x : FleetState) (order : ℕ → Option Side) (rows : List (List ℕ)) (v : Visit) (tick : ℕ) (marks more : List (List Bool)) → (IsVisit g (next_visit v) → tick_in rows (next_visit v) ≡ tick + duration_of x (next_visit v) → Marked marks (next_visit v)) → ((w : Visit) → Marked marks w → Marked more w)
    → ((q : ℕ) (w : Visit) → HasEdge g order q v w → tick_in rows w ≡ tick + duration_of x w → Marked more w) → (w : Visit) → IsVisit g w → Before g order v w → tick_in rows w ≡ tick + duration_of x w → Marked more w
woken_everywhere g x order rows v tick marks more along stays across w iw (inl e) t =
    let there : IsVisit g (next_visit v) = subst (λ (y : Visit). IsVisit g y) e iw in
    let rests : tick_in rows (next_visit v) ≡ tick + duration_of x (next_visit v) = subst (λ (y : Visit). tick_in rows y ≡ tick + duration_of x y) e t in
    subst (λ (y : Visit). Marked more y) (sym e) (stays (next_visit v) (along there rests))
woken_everywhere g x order rows v tick marks more along stays across w iw (inr (q, e)) t = across q w e t
