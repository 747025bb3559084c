-- Rounds: where an order has no cycle, raising the ticks round by round ends at the least schedule.
use Rattle.std.proofs.Common.{ℕ, suc, zero, ◌≡◌, ◌≢◌, ◌+◌, ◌<◌, ◌≤◌, ◌⊎◌, max, List, [], ◌∷◌, ◌++◌, Some, None, Option, true, false, Bool, cond, refl, sym, ap, ◌∙◌, subst, inl, inr, arith, length, length-append, get_or}
use Rattle.std.proofs.lemmas.Bool.{cases_lt, cases_eq, lt-ltb, le-ltb}
use Rattle.fleet_base.specs.declared.geometry.Visit.{Visit}
use Rattle.fleet_base.specs.declared.order.Side.{Side}
use Rattle.fleet_base.specs.Pairs.{same_visit}
use Rattle.fleet_base.specs.Order.{Graph, IsVisit, IsSorted, HasEdge, Before, next_visit}
use Rattle.fleet_base.specs.State.{FleetState, HasArrived, IsReleased, arrived_count, released_count, arrival_tick_of, release_tick_of, duration_of}
use Rattle.fleet_base.specs.Rules.{IsFleetState}
use Rattle.fleet_base.specs.Lists.{AllDifferent}
use Rattle.fleet_base.proofs.Members.{head_in, tail_in, in_cons, in_none}
use Rattle.fleet_base.proofs.Sorting.{Distinct}
use Rattle.std.proofs.lemmas.List.Elements.{Contains-append_left, Contains-append_right}
use Rattle.std.proofs.lemmas.List.Sums.{sum_by-cons}
use Rattle.plan_graph.specs.Limits.{visit_count}
use Rattle.std.specs.Prelude.{Contains, slice_index_or, sum_by}
use Rattle.fleet_base.specs.Schedule.{IsSchedule, Obeys, ObeysEdge, IsLeastSchedule, own_tick}
use Rattle.fleet_base.specs.declared.order.Edge.{Edge}
use Rattle.fleet_base.specs.Paths.{edge_in}
use Rattle.fleet_base.proofs.Walking.{edge_has, edge_is}
use Rattle.fleet_base.proofs.Places.{same_visit_is, same_visit_refl, place_in, stands}
use Rattle.fleet_base.specs.Open.{KeepsClosed}
use Rattle.cert_tree.proofs.EdgeLaws.{visit}
use Rattle.std.proofs.lemmas.Option.{slice_get_within}
use Rattle.cert_tree.proofs.Places.{earlier}
use Rattle.cert_tree.proofs.Walks.{tail_there}

module _ (g : Graph) (x : FleetState) (order : ℕ → Option Side) where
  abbrev floor : Visit → ℕ
  floor v = own_tick x v

  abbrev along_bound : (Visit → ℕ) → Visit → ℕ → ℕ
  along_bound f v k = Rattle.cert_check.specs.Rounds.along_bound x f v k

  abbrev edge_bound : (Visit → ℕ) → Visit → Option Edge → ℕ
  edge_bound f v e = Rattle.cert_check.specs.Rounds.edge_bound x f v e

  abbrev pair_bound : (Visit → ℕ) → Visit → ℕ → ℕ
  pair_bound f v n = Rattle.cert_check.specs.Rounds.pair_bound g x order f v n

  abbrev asked : (Visit → ℕ) → Visit → ℕ
  asked f v = Rattle.cert_check.specs.Rounds.asked g x order f v

  abbrev pub raised : (Visit → ℕ) → Visit → ℕ
  raised f v = Rattle.cert_check.specs.Rounds.raised g x order f v

  abbrev pub rounds : ℕ → Visit → ℕ
  rounds n v = Rattle.cert_check.specs.Rounds.rounds g x order n v

  pub raised_arrived : (f : Visit → ℕ) (v : Visit) → HasArrived x v → raised f v ≡ arrival_tick_of x v
  raised_arrived f v h = ap (λ b. cond b (arrival_tick_of x v) (asked f v)) (lt-ltb _ _ h)

  pub raised_ahead : (f : Visit → ℕ) (v : Visit) → arrived_count x v.robot ≤ v.index → raised f v ≡ asked f v
  raised_ahead f v h = ap (λ b. cond b (arrival_tick_of x v) (asked f v)) (le-ltb _ _ h)

  -- no edge asks for more than the largest bound
  pub edge_asked : (f : Visit → ℕ) (v u : Visit) (q : ℕ) → HasEdge g order q u v → f u + duration_of x v ≤ edge_bound f v (edge_in g order q)
  edge_asked f v u q e =
      let a : edge_bound f v (edge_in g order q) ≡ edge_bound f v (Some (record { tail = u; head = v })) = ap (edge_bound f v) (edge_is g order q u v e) in
      let b : edge_bound f v (Some (record { tail = u; head = v })) ≡ f u + duration_of x v = ap (λ b. cond b (f u + duration_of x v) 0) (same_visit_refl v v refl) in
      omega arith

  pub pair_asked : (f : Visit → ℕ) (v u : Visit) (q n : ℕ) → q < n → HasEdge g order q u v → f u + duration_of x v ≤ pair_bound f v n
  pair_asked f v u q zero lt e = absurd (omega (arith, lt))
  pair_asked f v u q (suc n) lt e = go (cases_eq q n) (λ h. pair_asked f v u q n h e)
    where
      go : (q ≡ n) ⊎ (q ≡ n → ⊥) → (q < n → f u + duration_of x v ≤ pair_bound f v n) → f u + duration_of x v ≤ pair_bound f v (suc n)
      go (inl s) rest = let z = edge_asked f v u n (subst (λ m. HasEdge g order m u v) s e) in omega arith
      go (inr ne) rest = let z = rest (omega arith) in omega arith

  -- a bound on all is one on the largest
  pub pair_within : (f : Visit → ℕ) (v : Visit) (m n : ℕ) → ((q : ℕ) (u : Visit) → HasEdge g order q u v → f u + duration_of x v ≤ m) → pair_bound f v n ≤ m
  pair_within f v m zero each = omega arith
  pair_within f v m (suc n) each = let z = pair_within f v m n each in let y = one (edge_in g order n) refl in omega arith
    where
      one : (o : Option Edge) → edge_in g order n ≡ o → edge_bound f v o ≤ m
      one None e = omega arith
      one (Some h) e = at (same_visit h.head v) refl
        where
          at : (b : Bool) → same_visit h.head v ≡ b → cond b (f h.tail + duration_of x v) 0 ≤ m
          at false s = omega arith
          at true s = each n h.tail (subst (λ (w : Visit). HasEdge g order n h.tail w) (same_visit_is h.head v s) (edge_has g order n h e))

  along_within : (f : Visit → ℕ) (v : Visit) (m k : ℕ) → ((j : ℕ) → k ≡ suc j → f (visit v.robot j) + duration_of x v ≤ m) → along_bound f v k ≤ m
  along_within f v m zero each = omega arith
  along_within f v m (suc k) each = each k refl

  module _ (state : IsFleetState g x) (keeps : KeepsClosed g x order) where
    before_next : (v : Visit) (j : ℕ) → v.index ≡ suc j → v ≡ next_visit (visit v.robot j)
    before_next v j e = ap (visit v.robot) (let z : v.index ≡ j + 1 = omega arith in z)

    prior_there : (v : Visit) (j : ℕ) → IsVisit g v → v.index ≡ suc j → IsVisit g (visit v.robot j)
    prior_there v j is e = record { robot = is.robot; index = omega (arith, is.index) }

    -- a round keeps what is larger larger
    pub raised_le : (f h : Visit → ℕ) (v : Visit) → IsVisit g v → ((u : Visit) → IsVisit g u → Before g order u v → f u ≤ h u) → raised f v ≤ raised h v
    raised_le f h v is each = go (cases_lt v.index (arrived_count x v.robot))
      where
        along : (j : ℕ) → v.index ≡ suc j → f (visit v.robot j) + duration_of x v ≤ along_bound h v v.index
        along j e =
            let z = each (visit v.robot j) (prior_there v j is e) (inl (before_next v j e)) in
            let y = ap (along_bound h v) e in
            omega arith

        across : (q : ℕ) (u : Visit) → HasEdge g order q u v → f u + duration_of x v ≤ pair_bound h v (length g.pairs)
        across q u e =
            let z = each u (tail_there g x state order keeps q u v e) (inr (q, e)) in
            let y = pair_asked h v u q (length g.pairs) (slice_get_within g.pairs q e.pair e.listed) e in
            omega arith

        go : (v.index < arrived_count x v.robot) ⊎ (arrived_count x v.robot ≤ v.index) → raised f v ≤ raised h v
        go (inl a) = let y = raised_arrived f v a in let z = raised_arrived h v a in omega arith
        go (inr a) =
            let y = raised_ahead f v a in
            let z = raised_ahead h v a in
            let b = along_within f v (along_bound h v v.index) v.index along in
            let c = pair_within f v (pair_bound h v (length g.pairs)) (length g.pairs) across in
            omega arith

    -- what is at most a schedule that obeys the order stays so when a tick is raised
    module _ (t : Visit → ℕ) (schedule : IsSchedule g x t) (obeys : Obeys g x order t) where
      pub raised_below : (f : Visit → ℕ) → ((u : Visit) → IsVisit g u → f u ≤ t u) → (v : Visit) → IsVisit g v → raised f v ≤ t v
      raised_below f low v is = go (cases_lt v.index (arrived_count x v.robot))
        where
          go : (v.index < arrived_count x v.robot) ⊎ (arrived_count x v.robot ≤ v.index) → raised f v ≤ t v
          go (inl a) = let y = raised_arrived f v a in let z = schedule.arrived v is a in omega arith
          go (inr a) =
              let y = raised_ahead f v a in
              let b = along_within f v (t v) v.index along in
              let c = pair_within f v (t v) (length g.pairs) across in
              let d = least_tick (cases_lt v.index (released_count x v.robot)) in
              omega arith
            where
              then : (u : Visit) → IsVisit g u → Before g order u v → t u + duration_of x v ≤ t v
              then u iu b = of (obeys u v iu is b)
                where
                  of : ObeysEdge x t u v → t u + duration_of x v ≤ t v
                  of (inl h) = absurd (omega (arith, h))
                  of (inr le) = le

              along : (j : ℕ) → v.index ≡ suc j → f (visit v.robot j) + duration_of x v ≤ t v
              along j e = let p = prior_there v j is e in let z = low (visit v.robot j) p in let w = then (visit v.robot j) p (inl (before_next v j e)) in omega arith

              across : (q : ℕ) (u : Visit) → HasEdge g order q u v → f u + duration_of x v ≤ t v
              across q u e = let p = tail_there g x state order keeps q u v e in let z = low u p in let w = then u p (inr (q, e)) in omega arith

              least_tick : (v.index < released_count x v.robot) ⊎ (released_count x v.robot ≤ v.index) → floor v ≤ t v
              least_tick (inl r) =
                  let e = ap (λ b. cond b (max x.clock (release_tick_of x v + duration_of x v)) (x.clock + duration_of x v)) (lt-ltb _ _ r) in
                  let z = schedule.released v is (λ h. omega (arith, h)) r in
                  omega (arith, z.0, z.1)
              least_tick (inr r) =
                  let e = ap (λ b. cond b (max x.clock (release_tick_of x v + duration_of x v)) (x.clock + duration_of x v)) (le-ltb _ _ r) in
                  let z = schedule.ahead v is (λ h. omega (arith, h)) (λ h. omega (arith, h)) in
                  omega arith

      pub below_all : (n : ℕ) (v : Visit) → IsVisit g v → rounds n v ≤ t v
      below_all zero v is = omega arith
      below_all (suc n) v is = raised_below (rounds n) (λ u iu. below_all n u iu) v is

    -- ticks that are at most every schedule that obeys the order, those of the arrivals, and that no round raises, are the least schedule
    module _ (f : Visit → ℕ) (low : (t : Visit → ℕ) → IsSchedule g x t → Obeys g x order t → (v : Visit) → IsVisit g v → f v ≤ t v)
        (arrivals : (v : Visit) → IsVisit g v → HasArrived x v → f v ≡ arrival_tick_of x v) (done : (v : Visit) → IsVisit g v → raised f v ≤ f v) where
      ahead_is : (v : Visit) → IsVisit g v → arrived_count x v.robot ≤ v.index → asked f v ≤ f v
      ahead_is v is a = let y = raised_ahead f v a in let z = done v is in omega arith

      schedule : IsSchedule g x f
      schedule = record {
        arrived = arrivals;
        released = released;
        ahead = ahead;
      }
        where
          released : (v : Visit) → IsVisit g v → ¬ HasArrived x v → IsReleased x v → (x.clock ≤ f v) × (release_tick_of x v + duration_of x v ≤ f v)
          released v is a r = go (cases_lt v.index (arrived_count x v.robot))
            where
              go : (v.index < arrived_count x v.robot) ⊎ (arrived_count x v.robot ≤ v.index) → (x.clock ≤ f v) × (release_tick_of x v + duration_of x v ≤ f v)
              go (inl h) = absurd (a h)
              go (inr le) =
                  let y = ahead_is v is le in
                  let e = ap (λ b. cond b (max x.clock (release_tick_of x v + duration_of x v)) (x.clock + duration_of x v)) (lt-ltb v.index (released_count x v.robot) r) in
                  (omega arith, omega arith)

          ahead : (v : Visit) → IsVisit g v → ¬ HasArrived x v → ¬ IsReleased x v → x.clock + duration_of x v ≤ f v
          ahead v is a r = go (cases_lt v.index (arrived_count x v.robot)) (cases_lt v.index (released_count x v.robot))
            where
              go : (v.index < arrived_count x v.robot) ⊎ (arrived_count x v.robot ≤ v.index) → (v.index < released_count x v.robot) ⊎ (released_count x v.robot ≤ v.index) → x.clock + duration_of x v ≤ f v
              go (inl h) o = absurd (a h)
              go (inr le) (inl h) = absurd (r h)
              go (inr le) (inr h) =
                  let y = ahead_is v is le in
                  let e = ap (λ b. cond b (max x.clock (release_tick_of x v + duration_of x v)) (x.clock + duration_of x v)) (le-ltb _ _ h) in
                  omega arith

      obeys : Obeys g x order f
      obeys u v iu iv b = go (cases_lt v.index (arrived_count x v.robot)) b
        where
          prior : (k : ℕ) → v ≡ next_visit u → v.index ≡ k → f u + duration_of x v ≤ along_bound f v k
          prior zero e i = absurd (let z = ap (λ (w : Visit). w.index) e in omega arith)
          prior (suc k) e i =
              let r : u.robot ≡ v.robot = sym (ap (λ (w : Visit). w.robot) e) in
              let m : u.index ≡ k = (let z = ap (λ (w : Visit). w.index) e in omega arith) in
              let s : u ≡ visit v.robot k = λ j. record { robot = r j; index = m j } in
              let y = ap f s in
              omega arith

          go : (v.index < arrived_count x v.robot) ⊎ (arrived_count x v.robot ≤ v.index) → Before g order u v → ObeysEdge x f u v
          go (inl h) b = inl h
          go (inr le) (inl e) = inr (let y = ahead_is v iv le in let z = prior v.index e refl in omega arith)
          go (inr le) (inr (q, e)) = inr (let y = ahead_is v iv le in let z = pair_asked f v u q (length g.pairs) (slice_get_within g.pairs q e.pair e.listed) e in omega arith)

      pub settled : IsLeastSchedule g x order f
      settled = record { schedule = schedule; obeys = obeys; least = low }

    module _ (list : List Visit) (sorted : IsSorted g order list) where
      -- after as many rounds as its place a visit has its tick
      pub enough : (n m : ℕ) (v : Visit) → IsVisit g v → place_in list v < m → rounds n v ≤ rounds m v
      enough zero m v is lt = omega arith
      enough (suc n) zero v is lt = absurd (omega (arith, lt))
      enough (suc n) (suc m) v is lt = raised_le (rounds n) (rounds m) v is (λ u iu b. enough n m u iu (let z = earlier g order list sorted u v iu is b in omega arith))

      pub all_settled : (v : Visit) → IsVisit g v → rounds (suc (length list)) v ≡ rounds (length list) v
      all_settled v is =
          let p = (stands list v (sorted.each v is)).0 in
          let a = enough (suc (length list)) (length list) v is p in
          let b = enough (length list) (suc (length list)) v is (omega arith) in
          omega arith

      pub the_least : IsLeastSchedule g x order (rounds (length list))
      the_least = settled (rounds (length list)) (λ t schedule obeys v is. below_all t schedule obeys (length list) v is) (λ v is h. sym (all_settled v is) ∙ raised_arrived (rounds (length list)) v h) (λ v is. let z = all_settled v is in omega arith)

-- ---- a list of all visits is no longer than there are visits

without : Visit → List Visit → List Visit
without v [] = []
without v (y ∷ ys) = cond (same_visit y v) (without v ys) (y ∷ without v ys)

length-without : (v : Visit) (ys : List Visit) → length (without v ys) ≤ length ys
unfolding without
length-without v [] = omega arith
length-without v (y ∷ ys) = go (same_visit y v) (length-without v ys)
  where
    go : (b : Bool) → length (without v ys) ≤ length ys → length (cond b (without v ys) (y ∷ without v ys)) ≤ length (y ∷ ys)
    go true h = omega arith
    go false h = omega arith

shorter : (v : Visit) (ys : List Visit) → Contains ys v → suc (length (without v ys)) ≤ length ys
unfolding without
shorter v [] h = absurd (in_none v h)
shorter v (y ∷ ys) h = go (same_visit y v) refl (in_cons y ys v h) (λ r. shorter v ys r)
  where
    go : (b : Bool) → same_visit y v ≡ b → (y ≡ v) ⊎ Contains ys v → (Contains ys v → suc (length (without v ys)) ≤ length ys) → suc (length (cond b (without v ys) (y ∷ without v ys))) ≤ length (y ∷ ys)
    go true e o rest = let l = length-without v ys in omega arith
    go false e (inl s) rest = let t = same_visit_refl y v s in cc
    go false e (inr r) rest = let l = rest r in omega arith

others_stay : (v : Visit) (ys : List Visit) (w : Visit) → Contains ys w → w ≢ v → Contains (without v ys) w
unfolding without
others_stay v [] w h ne = absurd (in_none w h)
others_stay v (y ∷ ys) w h ne = go (same_visit y v) refl (in_cons y ys w h) (λ r. others_stay v ys w r ne)
  where
    go : (b : Bool) → same_visit y v ≡ b → (y ≡ w) ⊎ Contains ys w → (Contains ys w → Contains (without v ys) w) → Contains (cond b (without v ys) (y ∷ without v ys)) w
    go true e (inl s) rest = absurd (ne (sym s ∙ same_visit_is y v e))
    go true e (inr r) rest = rest r
    go false e (inl s) rest = subst (λ (z : Visit). Contains (y ∷ without v ys) z) s (head_in y (without v ys))
    go false e (inr r) rest = tail_in y (without v ys) w (rest r)

no_longer : (xs ys : List Visit) → Distinct xs → ((v : Visit) → Contains xs v → Contains ys v) → length xs ≤ length ys
no_longer [] ys d all = omega arith
no_longer (v ∷ xs) ys d all =
    let h = no_longer xs (without v ys) d.1 (λ w c. others_stay v ys w (all w (tail_in v xs w c)) (λ e. d.0 (subst (λ (z : Visit). Contains xs z) e c))) in
    omega (arith, h, shorter v ys (all v (head_in v xs)))

-- a list in which places differ has no element twice
distinct_of : (xs : List Visit) → AllDifferent xs → Distinct xs
distinct_of [] d = tt
distinct_of (v ∷ xs) d = (λ h. d 0 (suc h.0) v (omega arith) (omega (arith, h.1)) (sym (same_default xs h.0 v h.2)), distinct_of xs (λ j k e lt h. d (suc j) (suc k) e (omega (arith, lt)) (omega (arith, h))))
  where
    same_default : (xs : List Visit) (k : ℕ) (w : Visit) → get_or xs k w ≡ w → slice_index_or xs k w ≡ w
    same_default xs k w e = e

-- the visits of robots from one on, row by row
row : ℕ → ℕ → ℕ → List Visit
row i k zero = []
row i k (suc n) = visit i k ∷ row i (k + 1) n

rows : ℕ → List ℕ → List Visit
rows i [] = []
rows i (last ∷ lasts) = row i 0 (last + 1) ++ rows (i + 1) lasts

length-row : (i k n : ℕ) → length (row i k n) ≡ n
unfolding row
length-row i k zero = refl
length-row i k (suc n) = ap suc (length-row i (k + 1) n)

length-rows : (i : ℕ) (lasts : List ℕ) → length (rows i lasts) ≡ sum_by (λ last. last + 1) lasts
unfolding rows
length-rows i [] = refl
length-rows i (last ∷ lasts) =
    let a = length-append (row i 0 (last + 1)) (rows (i + 1) lasts) in
    let b = length-row i 0 (last + 1) in
    let c = length-rows (i + 1) lasts in
    let d = sum_by-cons (λ last. last + 1) last lasts in
    omega (arith, a, b, c, d)

in_row : (n i k m : ℕ) → k ≤ m → m < k + n → Contains (row i k n) (visit i m)
unfolding row
in_row zero i k m low high = absurd (omega (arith, low, high))
in_row (suc n) i k m low high = go (cases_eq k m) (λ ne. in_row n i (k + 1) m (omega (arith, low, ne)) (omega (arith, high)))
  where
    go : (k ≡ m) ⊎ (k ≡ m → ⊥) → ((k ≡ m → ⊥) → Contains (row i (k + 1) n) (visit i m)) → Contains (visit i k ∷ row i (k + 1) n) (visit i m)
    go (inl e) rest = subst (λ j. Contains (visit i k ∷ row i (k + 1) n) (visit i j)) e (head_in (visit i k) (row i (k + 1) n))
    go (inr ne) rest = tail_in (visit i k) (row i (k + 1) n) (visit i m) (rest ne)

in_rows : (lasts : List ℕ) (i j m : ℕ) → j < length lasts → m ≤ get_or lasts j 0 → Contains (rows i lasts) (visit (i + j) m)
unfolding rows
in_rows [] i j m inside low = absurd (omega (arith, inside))
in_rows (last ∷ lasts) i zero m inside low = Contains-append_left (row i 0 (last + 1)) (rows (i + 1) lasts) (visit (i + 0) m) (subst (λ r. Contains (row i 0 (last + 1)) (visit r m)) (let z : i ≡ i + 0 = omega arith in z) (in_row (last + 1) i 0 m (omega arith) (omega (arith, low))))
in_rows (last ∷ lasts) i (suc j) m inside low =
    Contains-append_right (row i 0 (last + 1)) (rows (i + 1) lasts) (visit (i + suc j) m) (subst (λ r. Contains (rows (i + 1) lasts) (visit r m)) (let z : i + 1 + j ≡ i + suc j = omega arith in z) (in_rows lasts (i + 1) j m (omega (arith, inside)) low))

pub list_within : (g : Graph) (order : ℕ → Option Side) (list : List Visit) → IsSorted g order list → length list ≤ visit_count g
list_within g order list sorted =
    let h = no_longer list (rows 0 g.lasts) (distinct_of list sorted.once) (λ v h. there v (sorted.visits v h)) in
    omega (arith, h, length-rows 0 g.lasts)
  where
    there : (v : Visit) → IsVisit g v → Contains (rows 0 g.lasts) v
    there v is = subst (λ r. Contains (rows 0 g.lasts) (visit r v.index)) (let z : 0 + v.robot ≡ v.robot = omega arith in z) (in_rows g.lasts 0 v.robot v.index is.robot is.index)

-- where an order has no cycle, it has a least schedule
pub least_of : (g : Graph) (x : FleetState) (order : ℕ → Option Side) (list : List Visit) → IsFleetState g x → KeepsClosed g x order → IsSorted g order list → (s : Visit → ℕ) × IsLeastSchedule g x order s
least_of g x order list state keeps sorted = (rounds g x order (length list), the_least g x order state keeps list sorted)

-- and as many rounds as there are visits make it
pub rounds_are_enough : (g : Graph) (x : FleetState) (order : ℕ → Option Side) (list : List Visit) → IsFleetState g x → KeepsClosed g x order → IsSorted g order list
    → IsLeastSchedule g x order (rounds g x order (visit_count g))
rounds_are_enough g x order list state keeps sorted =
    settled g x order state keeps (rounds g x order (visit_count g)) (λ t schedule obeys v is. below_all g x order state keeps t schedule obeys (visit_count g) v is)
    (λ v is h. sym (same v is) ∙ raised_arrived g x order (rounds g x order (visit_count g)) v h) (λ v is. let z = same v is in omega arith)
  where
    same : (v : Visit) → IsVisit g v → rounds g x order (suc (visit_count g)) v ≡ rounds g x order (visit_count g) v
    same v is =
        let p = (stands list v (sorted.each v is)).0 in
        let l = list_within g order list sorted in
        let a = enough g x order state keeps list sorted (suc (visit_count g)) (visit_count g) v is (omega arith) in
        let b = enough g x order state keeps list sorted (visit_count g) (suc (visit_count g)) v is (omega arith) in
        omega arith

-- Ticks that are raised in place, visit by visit in any order, stay at most every schedule that obeys the order (`raised_below`), and
-- after n whole rounds they are at least those of n rounds (`at_least_rounds`). Where the order has no cycle and there were as many rounds as visits, nothing is left to raise
pub at_least_rounds : (g : Graph) (x : FleetState) (order : ℕ → Option Side) → IsFleetState g x → KeepsClosed g x order → (n : ℕ) (f : Visit → ℕ) → ((v : Visit) → IsVisit g v → rounds g x order n v ≤ f v)
    → (v : Visit) → IsVisit g v → rounds g x order (suc n) v ≤ raised g x order f v
at_least_rounds g x order state keeps n f low v is = raised_le g x order state keeps (rounds g x order n) f v is (λ u iu b. low u iu)

pub nothing_to_raise : (g : Graph) (x : FleetState) (order : ℕ → Option Side) (list : List Visit) → IsFleetState g x → KeepsClosed g x order → IsSorted g order list → (f : Visit → ℕ)
    → ((t : Visit → ℕ) → IsSchedule g x t → Obeys g x order t → (v : Visit) → IsVisit g v → f v ≤ t v) → ((v : Visit) → IsVisit g v → rounds g x order (visit_count g) v ≤ f v)
    → (v : Visit) → IsVisit g v → raised g x order f v ≤ f v
nothing_to_raise g x order list state keeps sorted f low high v is =
    let l = rounds_are_enough g x order list state keeps sorted in
    let a = raised_below g x order state keeps (rounds g x order (visit_count g)) l.schedule l.obeys f (λ u iu. low (rounds g x order (visit_count g)) l.schedule l.obeys u iu) v is in
    let b = high v is in
    omega arith
