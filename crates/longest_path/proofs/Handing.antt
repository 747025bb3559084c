-- A visit that waits hands its tick on.
use Rattle.std.proofs.Common.{ℕ, ◌≡◌, ◌≢◌, ◌+◌, ◌-◌, ◌*◌, ◌^◌, ◌<◌, ◌≤◌, ◌⊎◌, List, Option, Some, Bool, true, false, cond, refl, sym, ap, ◌∙◌, subst, inl, inr, arith, length}
use Rattle.std.specs.Prelude.{slice_get, Contains}
use Rattle.std.proofs.lemmas.Bool.{cases_lt}
use Rattle.fleet_base.specs.declared.geometry.Visit.{Visit}
use Rattle.fleet_base.specs.declared.order.Edge.{Edge}
use Rattle.fleet_base.specs.declared.order.PairId.{PairId}
use Rattle.fleet_base.specs.declared.order.Side.{Side}
use Rattle.fleet_base.specs.Order.{Graph, IsGraph, IsVisit, HasEdge, Before, IsCyclic, next_visit}
use Rattle.fleet_base.specs.State.{FleetState, arrived_count, duration_of}
use Rattle.fleet_base.specs.Rules.{IsFleetState}
use Rattle.fleet_base.specs.Schedule.{ObeysEdge, IsLeastSchedule}
use Rattle.fleet_base.proofs.Edges.{head_there}
use Rattle.fleet_base.proofs.Members.{place_of_element}
use Rattle.fleet_base.specs.VisitRows.{tick_in, AreRowsFor}
use Rattle.longest_path.specs.Closed.{AgreesOnClosed}
use Rattle.longest_path.specs.Cells.{HasCell, put, is_marked, mark_count}
use Rattle.longest_path.specs.Extending.{Extends, Reaches, HasOneMore, stays, goes}
use Rattle.longest_path.specs.Working.{IsWorkFor, IsIdle, IsKeptBy, noted}
use Rattle.longest_path.specs.Rising.{IsRaising, IsUnderWay, IsHanding, IsAdded, Marked, headroom}
use Rattle.longest_path.specs.declared.work.Work.{Work}
use Rattle.longest_path.proofs.Own.{duration_small}
use Rattle.longest_path.proofs.Cells.{cell_put, cell_other, put_alike, alike_cell, total_put, mark_put, marked_added}
use Rattle.longest_path.proofs.Working.{visit_cell, alike_rows, work_noted, kept_noted, mark_added, mark_dropped}
use Rattle.longest_path.proofs.Levels.{reached_ahead}
use Rattle.longest_path.proofs.Reaching.{reaches_on}
use Rattle.longest_path.proofs.Leaving.{before_apart}
use Rattle.longest_path.proofs.Raising.{raised, raised_here, same_or_stays, same_or_differs, old_or_new, base_below, nothing_raised, raise_begins, raise_hands_on, raise_ends, raise_returns, shift_begins, shift_hands_on}

-- rows with another tick are the ticks with that one raised
pub put_raised : (rows : List (List ℕ)) (w : Visit) (m : ℕ) → HasCell rows w → raised (tick_in rows) w m ≡ tick_in (put rows w m)
put_raised rows w m has = λ j u. each u (same_or_stays (tick_in rows) w m u) (same_or_differs u w) j
  where
    each : (u : Visit) → (u ≡ w) ⊎ (raised (tick_in rows) w m u ≡ tick_in rows u) → (u ≡ w) ⊎ (u ≢ w) → raised (tick_in rows) w m u ≡ tick_in (put rows w m) u
    each u o (inl e) = ap (raised (tick_in rows) w m) e ∙ raised_here (tick_in rows) w m ∙ sym (ap (tick_in (put rows w m)) e ∙ cell_put rows w m 0 has)
    each u (inl e) (inr ne) = absurd (ne e)
    each u (inr s) (inr ne) = s ∙ sym (cell_other rows w u m 0 has ne)

put_more : (rows : List (List ℕ)) (w : Visit) (m : ℕ) → HasCell rows w → tick_in rows w ≤ m → (u : Visit) → tick_in rows u ≤ tick_in (put rows w m) u
put_more rows w m has le u = go (same_or_differs u w)
  where
    go : (u ≡ w) ⊎ (u ≢ w) → tick_in rows u ≤ tick_in (put rows w m) u
    go (inl e) = let a = ap (tick_in rows) e in let b = ap (tick_in (put rows w m)) e in omega (arith, le, a, b, cell_put rows w m 0 has)
    go (inr ne) = omega (arith, cell_other rows w u m 0 has ne)

module _ (g : Graph) (x : FleetState) (more : ℕ → Option Side) (tail : Visit) (given : ℕ) where
  with_raising : (s t : Visit → ℕ) (W V : Visit → Type 0) → (u : IsUnderWay g x more tail given s W) → IsRaising g x u.order more u.head u.base t V
      → ((v : Visit) → IsVisit g v → t v ≤ u.base v + (u.base tail + duration_of x u.head - u.base u.head)) → IsUnderWay g x more tail given t V
  with_raising s t W V u r shifted = record { order = u.order; pair = u.pair; head = u.head; base = u.base; one = u.one; edge = u.edge; least = u.least; small = u.small; raising = r; shifted = shifted; start = u.start; ahead = u.ahead }

  -- the same visits wait, in other words
  pub change_waits : (s : Visit → ℕ) (W V : Visit → Type 0) → IsUnderWay g x more tail given s W → ((w : Visit) → W w → V w) → ((w : Visit) → V w → W w) → IsUnderWay g x more tail given s V
  change_waits s W V u to back = with_raising s s W V u (record {
    schedule = u.raising.schedule;
    below = u.raising.below;
    but = λ a c ia ic e. go a c (u.raising.but a c ia ic e);
    risen = u.raising.risen;
    reached = u.raising.reached;
    waiting = λ w h. u.raising.waiting w (back w h);
  }) u.shifted
    where
      go : (a c : Visit) → ObeysEdge x s a c ⊎ W a → ObeysEdge x s a c ⊎ V a
      go a c (inl o) = inl o
      go a c (inr w) = inr (to a w)

  -- a visit whose edges are obeyed waits no more
  pub under_done : (s : Visit → ℕ) (marks : List (List Bool)) (v : Visit) → IsUnderWay g x more tail given s (λ w. Marked marks w ⊎ (w ≡ v)) → ((w : Visit) → IsVisit g w → Before g more v w → s v + duration_of x w ≤ s w)
      → IsUnderWay g x more tail given s (Marked marks)
  under_done s marks v u handed = with_raising s s (λ w. Marked marks w ⊎ (w ≡ v)) (Marked marks) u (record {
    schedule = u.raising.schedule;
    below = u.raising.below;
    but = λ a c ia ic e. go a c ic e (u.raising.but a c ia ic e);
    risen = u.raising.risen;
    reached = u.raising.reached;
    waiting = λ w m. u.raising.waiting w (inl m);
  }) u.shifted
    where
      go : (a c : Visit) → IsVisit g c → Before g more a c → ObeysEdge x s a c ⊎ (Marked marks a ⊎ (a ≡ v)) → ObeysEdge x s a c ⊎ Marked marks a
      go a c ic e (inl o) = inl o
      go a c ic e (inr (inl m)) = inr m
      go a c ic e (inr (inr same)) = inl (inr (let z = handed c ic (subst (λ (y : Visit). Before g more y c) same e) in let k = ap s same in omega (arith, z, k)))

  -- a visit is taken to hand its tick on
  pub under_taken : (s : Visit → ℕ) (marks : List (List Bool)) (v : Visit) → HasCell marks v → Marked marks v → IsUnderWay g x more tail given s (Marked marks) → IsUnderWay g x more tail given s (λ w. Marked (put marks v false) w ⊎ (w ≡ v))
  under_taken s marks v has m u = change_waits s (Marked marks) (λ w. Marked (put marks v false) w ⊎ (w ≡ v)) u to back
    where
      to : (w : Visit) → Marked marks w → Marked (put marks v false) w ⊎ (w ≡ v)
      to w h = go (same_or_differs w v)
        where
          go : (w ≡ v) ⊎ (w ≢ v) → Marked (put marks v false) w ⊎ (w ≡ v)
          go (inl e) = inr e
          go (inr ne) = inl (cell_other marks v w false false has ne ∙ h)

      back : (w : Visit) → Marked (put marks v false) w ⊎ (w ≡ v) → Marked marks w
      back w (inl h) = (mark_dropped marks v w has h).1
      back w (inr e) = ap (λ (y : Visit). is_marked marks y) e ∙ m

  -- what waits is not the tail, as long as that has its tick
  pub tail_apart : (s : Visit → ℕ) (W : Visit → Type 0) (v : Visit) → IsUnderWay g x more tail given s W → W v → s tail ≡ given → tail ≡ v → ⊥
  tail_apart s W v u w e same = let z = (u.raising.waiting v w).1 in let a = ap s same in let b = ap u.base same in omega (arith, z, a, b, e, u.start)

  -- the ticks are far below the bound
  pub under_low : IsFleetState g x → (s : Visit → ℕ) (W : Visit → Type 0) (v : Visit) → IsUnderWay g x more tail given s W → W v → s v < 2 ^ 43
  under_low state s W v u w = omega (arith, u.shifted v (u.raising.waiting v w).0, u.small v, u.small tail, duration_small g x state u.head)

  -- where none waits the schedule is the least one; where the tail was raised there is a cycle
  pub under_ends : IsGraph g → (s : Visit → ℕ) (W : Visit → Type 0) → IsUnderWay g x more tail given s W → ((v : Visit) → W v → ⊥) → IsLeastSchedule g x more s
  under_ends graph s W u none = raise_ends g graph x u.order more u.pair u.one tail u.head u.edge u.base u.least s W u.raising none

  pub under_returns : IsGraph g → (s : Visit → ℕ) (W : Visit → Type 0) → IsUnderWay g x more tail given s W → s tail ≢ given → IsCyclic g more
  under_returns graph s W u ne = raise_returns g graph x u.order more u.pair u.one tail u.head u.edge u.base u.least s W u.raising (let z = u.raising.risen tail in omega (arith, z, ne, u.start))

module _ (g : Graph) (x : FleetState) (state : IsFleetState g x) (more : ℕ → Option Side) (closed : AgreesOnClosed g x more) where
  -- one visit is raised behind one that waits
  under_raised : (tail : Visit) (given : ℕ) (s : Visit → ℕ) (W : Visit → Type 0) (v w : Visit) → IsUnderWay g x more tail given s W → W v → (tail ≡ v → ⊥) → Before g more v w → IsVisit g w → s w < s v + duration_of x w
      → IsUnderWay g x more tail given (raised s w (s v + duration_of x w)) (λ u. W u ⊎ (u ≡ w))
  under_raised tail given s W v w u waits apart b iw lt = go (old_or_new g state.fleet.graph x u.order more u.pair u.one tail u.head u.edge u.base u.least v w b)
    where
      there : IsVisit g v × (u.base v < s v)
      there = u.raising.waiting v waits

      go : Before g u.order v w ⊎ ((v ≡ tail) × (w ≡ u.head)) → IsUnderWay g x more tail given (raised s w (s v + duration_of x w)) (λ y. W y ⊎ (y ≡ w))
      go (inr (t, h)) = absurd (apart (sym t))
      go (inl old) =
          let reach = reaches_on g u.order u.head v w (u.raising.reached v there.1) (goes v w w iw old (stays w)) in
          let head = head_there g more u.pair tail u.head state.fleet.graph u.edge in
          let ahead = reached_ahead g x state u.order (λ q side c e. closed q side c (u.one.extends q side e)) u.head w reach head u.ahead in
          with_raising g x more tail given s (raised s w (s v + duration_of x w)) W (λ y. W y ⊎ (y ≡ w)) u
          (raise_hands_on g state.fleet.graph x u.order more u.pair u.one tail u.head u.edge u.base u.least s W u.raising v w waits old iw ahead lt)
          (shift_hands_on g state.fleet.graph x u.order more u.pair u.one tail u.head u.edge u.base u.least s u.shifted v w there.0 iw old ahead)

  module _ (v : Visit) (tick : ℕ) (rows0 : List (List ℕ)) (work0 : Work) where
    pub handing_begins : AreRowsFor g rows0 → IsWorkFor rows0 work0 → tick_in rows0 v ≡ tick → IsHanding g x more v tick rows0 work0 rows0 work0
    handing_begins are room here = record { are = are; room = room; here = here; rises = λ w. omega arith; less = omega arith; kept = λ base k. k; under = λ tail given apart u. u }

    pub handing_on : (rows1 : List (List ℕ)) (work1 : Work) (rows : List (List ℕ)) (work : Work) → IsHanding g x more v tick rows0 work0 rows1 work1 → IsHanding g x more v tick rows1 work1 rows work → IsHanding g x more v tick rows0 work0 rows work
    handing_on rows1 work1 rows work a b = record {
      are = b.are;
      room = b.room;
      here = b.here;
      rises = λ w. omega (arith, a.rises w, b.rises w);
      less = omega (arith, a.less, b.less);
      kept = λ base k. b.kept base (a.kept base k);
      under = λ tail given apart u. b.under tail given apart (a.under tail given apart u);
    }

    module _ (rows : List (List ℕ)) (work : Work) (h : IsHanding g x more v tick rows0 work0 rows work) (w : Visit) (b : Before g more v w) (iw : IsVisit g w) (low : tick < 2 ^ 43) where
      abbrev next : ℕ
      next = tick + duration_of x w

      has : HasCell rows w
      has = visit_cell g rows w h.are iw

      ne : v ≢ w
      ne e = before_apart g state.fleet.graph more v w b (sym e)

      raised_handing : tick_in rows w < next → IsHanding g x more v tick rows0 work0 (put rows w next) (noted work w (tick_in rows w))
      raised_handing lt = record {
        are = alike_rows g rows (put rows w next) h.are (put_alike rows w next has);
        room = work_noted rows work w (tick_in rows w) next has h.room;
        here = cell_other rows w v next 0 has ne ∙ h.here;
        rises = λ u. omega (arith, h.rises u, put_more rows w next has (omega (arith, lt)) u);
        less = less;
        kept = λ base k. kept_noted base rows work w next has h.room (h.kept base k);
        under = under;
      }
        where
          has_mark : HasCell work.waiting w
          has_mark = alike_cell rows work.waiting w h.room.waiting has

          less : mark_count (put work.waiting w true) + headroom (put rows w next) ≤ mark_count work0.waiting + headroom rows0
          less =
              let m = mark_put work.waiting w true has_mark in
              let t = total_put (λ n. 2 ^ 44 - n) rows w next 0 has in
              let d = duration_small g x state w in
              omega (arith, m, t, d, lt, low, h.less)

          under : (tail : Visit) (given : ℕ) → (tail ≡ v → ⊥) → IsUnderWay g x more tail given (tick_in rows0) (λ u. Marked work0.waiting u ⊎ (u ≡ v))
              → IsUnderWay g x more tail given (tick_in (put rows w next)) (λ u. Marked (put work.waiting w true) u ⊎ (u ≡ v))
          under tail given apart u0 =
              change_waits g x more tail given (tick_in (put rows w next)) (λ u. (Marked work.waiting u ⊎ (u ≡ v)) ⊎ (u ≡ w)) (λ u. Marked (put work.waiting w true) u ⊎ (u ≡ v))
              (subst (λ (s : Visit → ℕ). IsUnderWay g x more tail given s (λ u. (Marked work.waiting u ⊎ (u ≡ v)) ⊎ (u ≡ w)))
              (ap (λ n. raised (tick_in rows) w (n + duration_of x w)) h.here ∙ put_raised rows w next has)
              (under_raised tail given (tick_in rows) (λ u. Marked work.waiting u ⊎ (u ≡ v)) v w (h.under tail given apart u0) (inr refl) apart b iw (omega (arith, lt, h.here))))
              to back
            where
              to : (u : Visit) → (Marked work.waiting u ⊎ (u ≡ v)) ⊎ (u ≡ w) → Marked (put work.waiting w true) u ⊎ (u ≡ v)
              to u (inl (inl m)) = inl (marked_added work.waiting w u has_mark m)
              to u (inl (inr e)) = inr e
              to u (inr e) = inl (ap (λ (y : Visit). is_marked (put work.waiting w true) y) e ∙ cell_put work.waiting w true false has_mark)

              back : (u : Visit) → Marked (put work.waiting w true) u ⊎ (u ≡ v) → (Marked work.waiting u ⊎ (u ≡ v)) ⊎ (u ≡ w)
              back u (inr e) = inl (inr e)
              back u (inl m) = of (mark_added work.waiting w u has_mark m)
                where
                  of : (u ≡ w) ⊎ (is_marked work.waiting u ≡ true) → (Marked work.waiting u ⊎ (u ≡ v)) ⊎ (u ≡ w)
                  of (inl e) = inr e
                  of (inr m') = inl (inl m')

      -- after the call that raises, whether it did or not
      pub handing_raised : (rows' : List (List ℕ)) (work' : Work) → (tick_in rows w < next → rows' ≡ put rows w next) → (tick_in rows w < next → work' ≡ noted work w (tick_in rows w)) → (next ≤ tick_in rows w → rows' ≡ rows) → (next ≤ tick_in rows w → work' ≡ work)
          → IsHanding g x more v tick rows0 work0 rows' work' × (next ≤ tick_in rows' w) × ((u : Visit) → tick_in rows u ≤ tick_in rows' u)
      handing_raised rows' work' later noted_ stays_ rests = go (cases_lt (tick_in rows w) next)
        where
          go : (tick_in rows w < next) ⊎ (next ≤ tick_in rows w) → IsHanding g x more v tick rows0 work0 rows' work' × (next ≤ tick_in rows' w) × ((u : Visit) → tick_in rows u ≤ tick_in rows' u)
          go (inl lt) = (
            subst (λ (r : List (List ℕ)). IsHanding g x more v tick rows0 work0 r work') (sym (later lt)) (subst (λ (k : Work). IsHanding g x more v tick rows0 work0 (put rows w next) k) (sym (noted_ lt)) (raised_handing lt)),
            (let e = ap (λ (r : List (List ℕ)). tick_in r w) (later lt) in omega (arith, e, cell_put rows w next 0 has)),
            λ u. let e = ap (λ (r : List (List ℕ)). tick_in r u) (later lt) in omega (arith, e, put_more rows w next has (omega (arith, lt)) u),
          )
          go (inr le) = (
            subst (λ (r : List (List ℕ)). IsHanding g x more v tick rows0 work0 r work') (sym (stays_ le)) (subst (λ (k : Work). IsHanding g x more v tick rows0 work0 rows k) (sym (rests le)) h),
            (let e = ap (λ (r : List (List ℕ)). tick_in r w) (stays_ le) in omega (arith, e, le)),
            λ u. let e = ap (λ (r : List (List ℕ)). tick_in r u) (stays_ le) in omega (arith, e),
          )

-- the first so many pairs of a visit are obeyed
abbrev pub AreObeyed : Graph → FleetState → (ℕ → Option Side) → (Visit → ℕ) → Visit → ℕ → List PairId → ℕ → Type 0
AreObeyed g x more s v tick qs n = (k : ℕ) (q : PairId) (w : Visit) → k < n → slice_get qs k ≡ Some q → HasEdge g more q.0 v w → tick + duration_of x w ≤ s w

-- a further one has no edge, or its edge is obeyed
pub obeyed_next : (g : Graph) (x : FleetState) (more : ℕ → Option Side) (s t : Visit → ℕ) (v : Visit) (tick : ℕ) (qs : List PairId) (n : ℕ) (q : PairId) → slice_get qs n ≡ Some q → ((w : Visit) → HasEdge g more q.0 v w → tick + duration_of x w ≤ t w)
    → ((u : Visit) → s u ≤ t u) → AreObeyed g x more s v tick qs n → AreObeyed g x more t v tick qs (n + 1)
obeyed_next g x more s t v tick qs n q at here rises before k r w lt is e = go (cases_lt k n)
  where
    go : (k < n) ⊎ (n ≤ k) → tick + duration_of x w ≤ t w
    go (inl less) = omega (arith, before k r w less is e, rises w)
    go (inr most) =
        let same : k ≡ n = omega (arith, lt, most) in
        let it : slice_get qs n ≡ Some r = subst (λ i. slice_get qs i ≡ Some r) same is in
        let alike : r ≡ q = cc in
        here w (subst (λ (p : PairId). HasEdge g more p.0 v w) alike e)

pub obeyed_all : (g : Graph) (x : FleetState) (more : ℕ → Option Side) (s : Visit → ℕ) (v : Visit) (tick : ℕ) (qs : List PairId) (n : ℕ) → ((q : ℕ) (w : Visit) → HasEdge g more q v w → Contains qs (record { 0 = q })) → length qs ≤ n → AreObeyed g x more s v tick qs n
    → (q : ℕ) (w : Visit) → HasEdge g more q v w → tick + duration_of x w ≤ s w
obeyed_all g x more s v tick qs n all long each q w e =
    let p = place_of_element qs (record { 0 = q }) (all q w e) in
    each p.0 (record { 0 = q }) w (omega (arith, p.1, long)) p.2 e

-- the step along the robot and the pairs are all edges out of a visit
pub handed_all : (g : Graph) (x : FleetState) (more : ℕ → Option Side) (v : Visit) (tick : ℕ) (s t : Visit → ℕ) → t v ≡ tick → (IsVisit g (next_visit v) → tick + duration_of x (next_visit v) ≤ s (next_visit v)) → ((w : Visit) → s w ≤ t w)
    → ((q : ℕ) (w : Visit) → HasEdge g more q v w → tick + duration_of x w ≤ t w) → (w : Visit) → IsVisit g w → Before g more v w → t v + duration_of x w ≤ t w
handed_all g x more v tick s t here along rises across w iw (inl e) =
    let there : IsVisit g (next_visit v) = subst (λ (y : Visit). IsVisit g y) e iw in
    let z = along there in
    let k = rises (next_visit v) in
    let a = ap t e in
    let d = ap (λ (y : Visit). duration_of x y) e in
    omega (arith, z, k, a, d, here)
handed_all g x more v tick s t here along rises across w iw (inr (q, e)) = let z = across q w e in omega (arith, z, here)

-- ---- an edge is given

-- a visit waits for an edge that was just given, or the edge is obeyed already
module _ (g : Graph) (x : FleetState) (state : IsFleetState g x) (more : ℕ → Option Side) (edge : Edge) (rows : List (List ℕ)) (work : Work) (are : AreRowsFor g rows) (small : (v : Visit) → tick_in rows v < 2 * 10 ^ 12)
    (room : IsWorkFor rows work) (idle : IsIdle work) (added : IsAdded g x more edge (tick_in rows)) where
  abbrev asked : ℕ
  asked = tick_in rows edge.tail + duration_of x edge.head

  begun : (rows' : List (List ℕ)) (work' : Work) → IsRaising g x added.order more edge.head (tick_in rows) (tick_in rows') (Marked work'.waiting)
      → ((v : Visit) → IsVisit g v → tick_in rows' v ≤ tick_in rows v + (asked - tick_in rows edge.head)) → IsUnderWay g x more edge.tail (tick_in rows edge.tail) (tick_in rows') (Marked work'.waiting)
  begun rows' work' r shifted = record { order = added.order; pair = added.pair; head = edge.head; base = tick_in rows; one = added.one; edge = added.has; least = added.least; small = small; raising = r; shifted = shifted; start = refl; ahead = added.ahead }

  -- its head is raised
  begun_later : tick_in rows edge.head < asked → IsUnderWay g x more edge.tail (tick_in rows edge.tail) (tick_in (put rows edge.head asked)) (Marked (put work.waiting edge.head true))
  begun_later lt =
      let has = visit_cell g rows edge.head are added.head in
      let has_mark = alike_cell rows work.waiting edge.head room.waiting has in
      let r = raise_begins g state.fleet.graph x added.order more added.pair added.one edge.tail edge.head added.has (tick_in rows) added.least added.tail added.head added.ahead lt in
      let shifted = shift_begins g state.fleet.graph x added.order more added.pair added.one edge.tail edge.head added.has (tick_in rows) added.least lt in
      change_waits g x more edge.tail (tick_in rows edge.tail) (tick_in (put rows edge.head asked)) (λ v. v ≡ edge.head) (Marked (put work.waiting edge.head true))
      (subst (λ (s : Visit → ℕ). IsUnderWay g x more edge.tail (tick_in rows edge.tail) s (λ v. v ≡ edge.head)) (put_raised rows edge.head asked has)
      (record { order = added.order; pair = added.pair; head = edge.head; base = tick_in rows; one = added.one; edge = added.has; least = added.least; small = small; raising = r; shifted = shifted; start = refl; ahead = added.ahead }))
      (λ v e. ap (λ (y : Visit). is_marked (put work.waiting edge.head true) y) e ∙ cell_put work.waiting edge.head true false has_mark)
      (λ v m. only v (mark_added work.waiting edge.head v has_mark m))
    where
      only : (v : Visit) → (v ≡ edge.head) ⊎ (is_marked work.waiting v ≡ true) → v ≡ edge.head
      only v (inl e) = e
      only v (inr m) = absurd (let z = idle.waiting v in cc)

  -- it is obeyed
  begun_obeyed : asked ≤ tick_in rows edge.head → IsUnderWay g x more edge.tail (tick_in rows edge.tail) (tick_in rows) (Marked work.waiting)
  begun_obeyed le = begun rows work (record {
    schedule = added.least.schedule;
    below = base_below g state.fleet.graph x added.order more added.pair added.one edge.tail edge.head added.has (tick_in rows) added.least;
    but = λ u v iu iv b. inl ((nothing_raised g state.fleet.graph x added.order more added.pair added.one edge.tail edge.head added.has (tick_in rows) added.least (inr le)).obeys u v iu iv b);
    risen = λ v. omega arith;
    reached = λ v lt. absurd (omega (arith, lt));
    waiting = λ v m. absurd (let z = idle.waiting v in cc);
  }) (λ v is. omega arith)

  kept_begins : IsKeptBy (tick_in rows) rows work
  kept_begins = record { raised = λ v m. absurd (let z = idle.raised v in cc); others = λ v m. refl }

  -- what is so after the call that raises the head
  pub record HasBegun (rows' : List (List ℕ)) (work' : Work) : Type 0 where
    pub rows_are : AreRowsFor g rows'
    pub work_is : IsWorkFor rows' work'
    pub kept : IsKeptBy (tick_in rows) rows' work'
    pub under_way : IsUnderWay g x more edge.tail (tick_in rows edge.tail) (tick_in rows') (Marked work'.waiting)

  pub has_begun : (rows' : List (List ℕ)) (work' : Work) → (tick_in rows edge.head < asked → rows' ≡ put rows edge.head asked) → (tick_in rows edge.head < asked → work' ≡ noted work edge.head (tick_in rows edge.head)) → (asked ≤ tick_in rows edge.head → rows' ≡ rows) → (asked ≤ tick_in rows edge.head → work' ≡ work)
      → HasBegun rows' work'
  has_begun rows' work' later noted_ stays_ rests = go (cases_lt (tick_in rows edge.head) asked)
    where
      has : HasCell rows edge.head
      has = visit_cell g rows edge.head are added.head

      go : (tick_in rows edge.head < asked) ⊎ (asked ≤ tick_in rows edge.head) → HasBegun rows' work'
      go (inl lt) = subst (λ (r : List (List ℕ)). HasBegun r work') (sym (later lt)) (subst (λ (k : Work). HasBegun (put rows edge.head asked) k) (sym (noted_ lt)) (record {
        rows_are = alike_rows g rows (put rows edge.head asked) are (put_alike rows edge.head asked has);
        work_is = work_noted rows work edge.head (tick_in rows edge.head) asked has room;
        kept = kept_noted (tick_in rows) rows work edge.head asked has room kept_begins;
        under_way = begun_later lt;
      }))
      go (inr le) = subst (λ (r : List (List ℕ)). HasBegun r work') (sym (stays_ le)) (subst (λ (k : Work). HasBegun rows k) (sym (rests le)) (record { rows_are = are; work_is = room; kept = kept_begins; under_way = begun_obeyed le }))

  -- the same where the tick is told otherwise
  pub has_begun_at : (t : ℕ) → t ≡ asked → (rows' : List (List ℕ)) (work' : Work) → (tick_in rows edge.head < t → rows' ≡ put rows edge.head t) → (tick_in rows edge.head < t → work' ≡ noted work edge.head (tick_in rows edge.head)) → (t ≤ tick_in rows edge.head → rows' ≡ rows) → (t ≤ tick_in rows edge.head → work' ≡ work)
      → HasBegun rows' work'
  has_begun_at t e rows' work' later noted_ stays_ rests = has_begun rows' work'
      (λ lt. later (omega (arith, lt, e)) ∙ ap (λ n. put rows edge.head n) e)
      (λ lt. noted_ (omega (arith, lt, e)))
      (λ le. stays_ (omega (arith, le, e)))
      (λ le. rests (omega (arith, le, e)))
