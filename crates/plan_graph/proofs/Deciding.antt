-- How a ranking goes on, and that it comes to a list or to a cycle.
use Rattle.std.proofs.Common.{ℕ, suc, zero, ◌≡◌, ◌+◌, ◌-◌, ◌*◌, ◌<◌, ◌≤◌, ◌⊎◌, List, [], ◌∷◌, ◌++◌, Some, None, Option, true, false, Bool, refl, sym, ◌∙◌, subst, inl, inr, arith, length, get_or, sum}
use Rattle.std.specs.Prelude.{Contains, slice_get, ◌↔◌}
use Rattle.std.proofs.Math.ListN.{set, replicate}
use Rattle.std.proofs.lemmas.Bool.{cases_lt, cases_eq}
use Rattle.std.proofs.lemmas.List.{get_or-set_other, get_or_past, length-replicate, get_or-replicate}
use Rattle.std.proofs.lemmas.List.Sums.{sum_by-set}
use Rattle.fleet_base.specs.declared.geometry.Visit.{Visit}
use Rattle.fleet_base.specs.declared.order.Pair.{Pair}
use Rattle.fleet_base.specs.declared.order.PairId.{PairId}
use Rattle.fleet_base.specs.declared.order.Side.{Side}
use Rattle.fleet_base.specs.Pairs.{same_visit, numbers_of}
use Rattle.fleet_base.specs.Order.{Graph, IsGraph, IsVisit, last_in, next_visit, first_visit, second_visit, HasEdge, IsSorted, IsCycle, IsCyclic}
use Rattle.fleet_base.proofs.Members.{head_in, tail_in, in_cons, in_none}
use Rattle.fleet_base.proofs.Sorting.{all_different}
use Rattle.fleet_base.proofs.Places.{same_visit_is, same_visit-refl}
use Rattle.fleet_base.proofs.Edges.{edge_unique}
use Rattle.plan_graph.specs.declared.work.Waiting.{Waiting}
use Rattle.plan_graph.specs.Limits.{visit_count}
use Rattle.plan_graph.proofs.Numbers.{edge_numbered}
use Rattle.plan_graph.specs.Listing.{front, IsListing, IsPassed, IsFree, IsBlocked, Waits, robots_of, IsWorking}
use Rattle.plan_graph.proofs.Listing.{nothing_listed, fewer_listed, complete, list_next}
use Rattle.plan_graph.proofs.Waits.{distinct_from, blocked_differs, awaited_there, few_wait, trail_begin, cycle_of}
use Rattle.plan_graph.proofs.Cycles.{cycle_refutes}

module _ (g : Graph) (order : ℕ → Option Side) where
  -- where no pair of a visit holds it back, it is free
  pub free_from_passed : (listed : List ℕ) (v : Visit) → ((q : PairId) → Contains (numbers_of g.pairs v) q → IsPassed g order listed v q) → IsFree g order listed v
  free_from_passed listed v all q u e here = all (record { 0 = q }) (edge_numbered g order q u v e) u e here

  -- what waits, and what it waits for, stays so while another robot's visits are listed
  blocked_kept : (listed : List ℕ) (i n x j : ℕ) (q : PairId) → (x ≡ i → ⊥) → (j ≡ i → ⊥) → IsBlocked g order listed x q j → IsBlocked g order (set listed i n) x q j
  blocked_kept listed i n x j q nx nj b =
      let same : front listed x ≡ front (set listed i n) x = λ t. record { robot = x; index = sym (get_or-set_other listed i x n 0 nx) t } in
      record {
        tail = b.tail;
        edge = subst (λ (v : Visit). HasEdge g order q.0 b.tail v) same b.edge;
        here = subst (λ (v : Visit). IsVisit g v) same b.here;
        there = b.there;
        robot = b.robot;
        unlisted = omega (arith, get_or-set_other listed i j n 0 nj, b.unlisted);
      }

  waits_kept : (listed : List ℕ) (i n : ℕ) (ws : List Waiting) (k : ℕ) → (k ≡ i → ⊥) → (Contains (robots_of ws) i → ⊥) → Waits g order listed ws k → Waits g order (set listed i n) ws k
  waits_kept listed i n [] k nk out s = tt
  waits_kept listed i n (w ∷ ws) k nk out s =
      let nw : w.robot ≡ i → ⊥ = λ e. out (subst (λ (m : ℕ). Contains (w.robot ∷ robots_of ws) m) e (head_in w.robot (robots_of ws))) in
      (blocked_kept listed i n w.robot k w.pair nw nk s.0, waits_kept listed i n ws w.robot nw (λ h. out (tail_in w.robot (robots_of ws) i h)) s.1)

  -- the robot at work is held back, and the one that it waits for is at work next
  pub work_waits : IsGraph g → (listed : List ℕ) (list : List Visit) (ws : List Waiting) (i j : ℕ) (q : PairId) → IsWorking g order listed list ws i → IsBlocked g order listed i q j → (Contains (robots_of ws) j → ⊥)
      → IsWorking g order listed list (record { robot = i; pair = q } ∷ ws) j
  work_waits graph listed list ws i j q s b new = record {
    listing = s.listing;
    waits = (b, s.waits);
    apart = all_different (j ∷ i ∷ robots_of ws) (λ h. apart (in_cons i (robots_of ws) j h), distinct_from (i ∷ robots_of ws) s.apart);
  }
    where
      apart : (i ≡ j) ⊎ Contains (robots_of ws) j → ⊥
      apart (inl e) = blocked_differs g order listed graph i j q b e
      apart (inr h) = new h

  -- the next visit of the robot at work is listed, and the robot that waited for it is at work again
  pub work_returns : (listed : List ℕ) (list : List Visit) (w : Waiting) (ws : List Waiting) (i : ℕ) → IsWorking g order listed list (w ∷ ws) i → i < length g.lasts → get_or listed i 0 ≤ last_in g i → IsFree g order listed (front listed i)
      → IsWorking g order (set listed i (get_or listed i 0 + 1)) (list ++ front listed i ∷ []) ws w.robot
  work_returns listed list w ws i s here short free = record {
    listing = list_next g order listed list s.listing i here short free;
    waits = waits_kept listed i (get_or listed i 0 + 1) ws w.robot
        (λ e. (distinct_from (i ∷ w.robot ∷ robots_of ws) s.apart).0 (subst (λ (m : ℕ). Contains (w.robot ∷ robots_of ws) m) e (head_in w.robot (robots_of ws))))
        (λ h. (distinct_from (i ∷ w.robot ∷ robots_of ws) s.apart).0 (tail_in w.robot (robots_of ws) i h))
        s.waits.1;
    apart = all_different (w.robot ∷ robots_of ws) (distinct_from (i ∷ w.robot ∷ robots_of ws) s.apart).1;
  }

  -- or none waited
  pub work_alone : (listed : List ℕ) (list : List Visit) (i : ℕ) → IsWorking g order listed list [] i → i < length g.lasts → get_or listed i 0 ≤ last_in g i → IsFree g order listed (front listed i)
      → IsWorking g order (set listed i (get_or listed i 0 + 1)) (list ++ front listed i ∷ []) [] i
  work_alone listed list i s here short free = record {
    listing = list_next g order listed list s.listing i here short free;
    waits = tt;
    apart = all_different (i ∷ []) (λ h. in_none i h, tt);
  }

  pub work_begins : (listed : List ℕ) (list : List Visit) (i : ℕ) → IsListing g order listed list → IsWorking g order listed list [] i
  work_begins listed list i l = record { listing = l; waits = tt; apart = all_different (i ∷ []) (λ h. in_none i h, tt) }

  -- ---- each step is decided

  -- a pair has an edge into a visit, or none
  edge_into : (q : ℕ) (v : Visit) → ((u : Visit) × HasEdge g order q u v) ⊎ ((u : Visit) → HasEdge g order q u v → ⊥)
  edge_into q v = pair_case (slice_get g.pairs q) refl
    where
      same_case : (p : Pair) (side : Side) → slice_get g.pairs q ≡ Some p → order q ≡ Some side → (b : Bool) → same_visit v (second_visit p side) ≡ b → ((u : Visit) × HasEdge g order q u v) ⊎ ((u : Visit) → HasEdge g order q u v → ⊥)
      same_case p side ep es true t = inl (next_visit (first_visit p side), record { pair = p; side = side; listed = ep; sided = es; tail = refl; head = same_visit_is v (second_visit p side) t })
      same_case p side ep es false t = inr (λ u e. no e)
        where
          no : {u : Visit} → HasEdge g order q u v → ⊥
          no e =
              let pair : e.pair ≡ p = cc (e.listed, ep) in
              let sided : e.side ≡ side = cc (e.sided, es) in
              let head : second_visit p side ≡ v = (λ s. second_visit (sym pair s) (sym sided s)) ∙ sym e.head in
              let yes : same_visit v (second_visit p side) ≡ true = subst (λ (w : Visit). same_visit v w ≡ true) (sym head) (same_visit-refl v) in
              cc

      side_case : (p : Pair) → slice_get g.pairs q ≡ Some p → (o : Option Side) → order q ≡ o → ((u : Visit) × HasEdge g order q u v) ⊎ ((u : Visit) → HasEdge g order q u v → ⊥)
      side_case p ep None es = inr (λ u e. no e)
        where
          no : {u : Visit} → HasEdge g order q u v → ⊥
          no e = cc (e.sided, es)
      side_case p ep (Some side) es = same_case p side ep es (same_visit v (second_visit p side)) refl

      pair_case : (o : Option Pair) → slice_get g.pairs q ≡ o → ((u : Visit) × HasEdge g order q u v) ⊎ ((u : Visit) → HasEdge g order q u v → ⊥)
      pair_case None ep = inr (λ u e. no e)
        where
          no : {u : Visit} → HasEdge g order q u v → ⊥
          no e = cc (e.listed, ep)
      pair_case (Some p) ep = side_case p ep (order q) refl

  visit_or_none : (u : Visit) → IsVisit g u ⊎ (IsVisit g u → ⊥)
  visit_or_none u = go (cases_lt u.robot (length g.lasts)) (cases_lt (last_in g u.robot) u.index)
    where
      go : (u.robot < length g.lasts) ⊎ (length g.lasts ≤ u.robot) → (last_in g u.robot < u.index) ⊎ (u.index ≤ last_in g u.robot) → IsVisit g u ⊎ (IsVisit g u → ⊥)
      go (inl here) (inr low) = inl (record { robot = here; index = low })
      go (inr past) o = inr (λ h. omega (arith, h.robot, past))
      go (inl here) (inl high) = inr (λ h. omega (arith, h.index, high))

  -- a pair holds a robot's next visit back, or does not
  passed_or_blocked : (listed : List ℕ) (i : ℕ) → IsVisit g (front listed i) → (q : PairId) → IsPassed g order listed (front listed i) q ⊎ ((j : ℕ) × IsBlocked g order listed i q j)
  passed_or_blocked listed i here q = edge_case (edge_into q.0 (front listed i))
    where
      listed_case : (u : Visit) → HasEdge g order q.0 u (front listed i) → IsVisit g u → (u.index < get_or listed u.robot 0) ⊎ (get_or listed u.robot 0 ≤ u.index) → IsPassed g order listed (front listed i) q ⊎ ((j : ℕ) × IsBlocked g order listed i q j)
      listed_case u e there (inl lt) = inl (λ w f k. subst (λ (x : Visit). x.index < get_or listed x.robot 0) (edge_unique g order q.0 u (front listed i) w (front listed i) e f).0 lt)
      listed_case u e there (inr ge) = inr (u.robot, record { tail = u; edge = e; here = here; there = there; robot = refl; unlisted = ge })

      there_case : (u : Visit) → HasEdge g order q.0 u (front listed i) → IsVisit g u ⊎ (IsVisit g u → ⊥) → IsPassed g order listed (front listed i) q ⊎ ((j : ℕ) × IsBlocked g order listed i q j)
      there_case u e (inl there) = listed_case u e there (cases_lt u.index (get_or listed u.robot 0))
      there_case u e (inr not) = inl (λ w f k. absurd (not (subst (λ (x : Visit). IsVisit g x) (edge_unique g order q.0 w (front listed i) u (front listed i) f e).0 k)))

      edge_case : ((u : Visit) × HasEdge g order q.0 u (front listed i)) ⊎ ((u : Visit) → HasEdge g order q.0 u (front listed i) → ⊥) → IsPassed g order listed (front listed i) q ⊎ ((j : ℕ) × IsBlocked g order listed i q j)
      edge_case (inl e) = there_case e.0 e.1 (visit_or_none e.0)
      edge_case (inr not) = inl (λ w f k. absurd (not w f))

  all_passed_or_blocked : (listed : List ℕ) (i : ℕ) → IsVisit g (front listed i) → (qs : List PairId)
      → ((q : PairId) → Contains qs q → IsPassed g order listed (front listed i) q) ⊎ ((q : PairId) × (j : ℕ) × IsBlocked g order listed i q j)
  all_passed_or_blocked listed i here [] = inl (λ q h. absurd (in_none q h))
  all_passed_or_blocked listed i here (p ∷ ps) = go (passed_or_blocked listed i here p) (all_passed_or_blocked listed i here ps)
    where
      pick : IsPassed g order listed (front listed i) p → ((q : PairId) → Contains ps q → IsPassed g order listed (front listed i) q) → (q : PairId) → (p ≡ q) ⊎ Contains ps q → IsPassed g order listed (front listed i) q
      pick first later q (inl e) = subst (λ (r : PairId). IsPassed g order listed (front listed i) r) e first
      pick first later q (inr h) = later q h

      go : IsPassed g order listed (front listed i) p ⊎ ((j : ℕ) × IsBlocked g order listed i p j)
          → ((q : PairId) → Contains ps q → IsPassed g order listed (front listed i) q) ⊎ ((q : PairId) × (j : ℕ) × IsBlocked g order listed i q j)
          → ((q : PairId) → Contains (p ∷ ps) q → IsPassed g order listed (front listed i) q) ⊎ ((q : PairId) × (j : ℕ) × IsBlocked g order listed i q j)
      go (inr b) o = inr (p, b.0, b.1)
      go (inl first) (inr b) = inr b
      go (inl first) (inl later) = inl (λ q h. pick first later q (in_cons p ps q h))

  -- some robot has a visit left, or none has
  left_or_done : (listed : List ℕ) (n : ℕ) → ((i : ℕ) × (i < n) × (get_or listed i 0 ≤ last_in g i)) ⊎ ((i : ℕ) → i < n → last_in g i < get_or listed i 0)
  left_or_done listed zero = inr (λ i h. absurd (omega (arith, h)))
  left_or_done listed (suc n) = go (cases_lt (last_in g n) (get_or listed n 0)) (left_or_done listed n)
    where
      pick : last_in g n < get_or listed n 0 → ((i : ℕ) → i < n → last_in g i < get_or listed i 0) → (i : ℕ) → i < suc n → (i ≡ n) ⊎ (i ≡ n → ⊥) → last_in g i < get_or listed i 0
      pick last rest i h (inl e) = subst (λ (m : ℕ). last_in g m < get_or listed m 0) (sym e) last
      pick last rest i h (inr ne) = rest i (omega arith)

      go : (last_in g n < get_or listed n 0) ⊎ (get_or listed n 0 ≤ last_in g n) → ((i : ℕ) × (i < n) × (get_or listed i 0 ≤ last_in g i)) ⊎ ((i : ℕ) → i < n → last_in g i < get_or listed i 0)
          → ((i : ℕ) × (i < suc n) × (get_or listed i 0 ≤ last_in g i)) ⊎ ((i : ℕ) → i < suc n → last_in g i < get_or listed i 0)
      go (inr le) o = inl (n, omega arith, le)
      go (inl lt) (inl a) = inl (a.0, omega (arith, a.1), a.2)
      go (inl lt) (inr rest) = inr (λ i h. pick lt rest i h (cases_eq i n))

  member_or_none : (xs : List ℕ) (x : ℕ) → Contains xs x ⊎ (Contains xs x → ⊥)
  member_or_none [] x = inr (λ h. in_none x h)
  member_or_none (y ∷ ys) x = go (cases_eq y x) (member_or_none ys x)
    where
      out : (y ≡ x → ⊥) → (Contains ys x → ⊥) → (y ≡ x) ⊎ Contains ys x → ⊥
      out ne none (inl e) = ne e
      out ne none (inr h) = none h

      go : (y ≡ x) ⊎ (y ≡ x → ⊥) → Contains ys x ⊎ (Contains ys x → ⊥) → Contains (y ∷ ys) x ⊎ (Contains (y ∷ ys) x → ⊥)
      go (inl e) o = inl (subst (λ (m : ℕ). Contains (y ∷ ys) m) e (head_in y ys))
      go (inr ne) (inl h) = inl (tail_in y ys x h)
      go (inr ne) (inr none) = inr (λ h. out ne none (in_cons y ys x h))

  -- how much work is left at most
  abbrev work_left : List ℕ → List Waiting → ℕ
  work_left listed ws = 2 * (visit_count g - sum listed) + (length g.lasts - length ws)

  abbrev Outcome : Type 0
  Outcome = ((list : List Visit) × IsSorted g order list) ⊎ ((cycle : List PairId) × IsCycle g order cycle)

  -- what so much work leads to
  abbrev Works : ℕ → Type 0
  Works fuel = (listed : List ℕ) (list : List Visit) (ws : List Waiting) (i : ℕ) → IsWorking g order listed list ws i → i < length g.lasts → get_or listed i 0 ≤ last_in g i → work_left listed ws < fuel → Outcome

  work : IsGraph g → (fuel : ℕ) → Works fuel
  work graph zero listed list ws i s here short enough = absurd (omega (arith, enough))
  work graph (suc fuel) listed list ws i s here short enough = go (work graph fuel) ws s enough (all_passed_or_blocked listed i (record { robot = here; index = short }) (numbers_of g.pairs (front listed i)))
    where
      inside : i < length listed
      inside = omega (arith, here, s.listing.robots)

      one_more : sum (set listed i (get_or listed i 0 + 1)) ≡ sum listed + 1
      one_more = omega (arith, sum_by-set (λ (x : ℕ). x) listed i (get_or listed i 0 + 1) 0 inside)

      lower : (vs ws : List Waiting) → length ws ≤ length vs + 1 → length ws ≤ length g.lasts → work_left listed ws < suc fuel → work_left (set listed i (get_or listed i 0 + 1)) vs < fuel
      lower vs ws e small h = omega (arith, h, e, small, one_more, fewer_listed g order listed list s.listing i here short)

      wait_case : Works fuel → (ws : List Waiting) → IsWorking g order listed list ws i → work_left listed ws < suc fuel → (q : PairId) (j : ℕ) → IsBlocked g order listed i q j → Contains (robots_of ws) j ⊎ (Contains (robots_of ws) j → ⊥) → Outcome
      wait_case further ws s enough q j b (inl h) = inr (cycle_of g order listed q j i b ws i [] (trail_begin g order listed i j q b) s.waits h)
      wait_case further ws s enough q j b (inr new) =
          let next = awaited_there g order listed i j q b in
          further listed list (record { robot = i; pair = q } ∷ ws) j (work_waits graph listed list ws i j q s b new) next.0 next.1 (omega (arith, enough, few_wait g order listed ws i s.waits here s.apart))

      next_robot : Works fuel → (listed : List ℕ) (list : List Visit) → IsListing g order listed list → work_left listed [] < fuel → ((i : ℕ) × (i < length g.lasts) × (get_or listed i 0 ≤ last_in g i)) ⊎ ((i : ℕ) → i < length g.lasts → last_in g i < get_or listed i 0) → Outcome
      next_robot further listed list l enough (inl a) = further listed list [] a.0 (work_begins listed list a.0 l) a.1 a.2 enough
      next_robot further listed list l enough (inr all) = inl (list, complete g order listed list l all)

      back : (w : Waiting) (ws : List Waiting) → IsWorking g order listed list (w ∷ ws) i → get_or (set listed i (get_or listed i 0 + 1)) w.robot 0 ≤ last_in g w.robot
      back w ws s =
          let ne : w.robot ≡ i → ⊥ = λ e. (distinct_from (i ∷ w.robot ∷ robots_of ws) s.apart).0 (subst (λ (m : ℕ). Contains (w.robot ∷ robots_of ws) m) e (head_in w.robot (robots_of ws))) in
          omega (arith, get_or-set_other listed i w.robot (get_or listed i 0 + 1) 0 ne, s.waits.0.here.index)

      go : Works fuel → (ws : List Waiting) → IsWorking g order listed list ws i → work_left listed ws < suc fuel
          → ((q : PairId) → Contains (numbers_of g.pairs (front listed i)) q → IsPassed g order listed (front listed i) q) ⊎ ((q : PairId) × (j : ℕ) × IsBlocked g order listed i q j) → Outcome
      go further ws s enough (inr b) = wait_case further ws s enough b.0 b.1 b.2 (member_or_none (robots_of ws) b.1)
      go further [] s enough (inl all) =
          let l = list_next g order listed list s.listing i here short (free_from_passed listed (front listed i) all) in
          next_robot further (set listed i (get_or listed i 0 + 1)) (list ++ front listed i ∷ []) l (lower [] [] (omega arith) (omega arith) enough) (left_or_done (set listed i (get_or listed i 0 + 1)) (length g.lasts))
      go further (w ∷ ws) s enough (inl all) =
          further (set listed i (get_or listed i 0 + 1)) (list ++ front listed i ∷ []) ws w.robot
          (work_returns listed list w ws i s here short (free_from_passed listed (front listed i) all)) s.waits.0.here.robot (back w ws s)
          (lower ws (w ∷ ws) (omega arith) (omega (arith, few_wait g order listed (w ∷ ws) i s.waits here s.apart)) enough)

  list_or_cycle : IsGraph g → Outcome
  list_or_cycle graph = go (left_or_done none (length g.lasts))
    where
      none : List ℕ
      none = replicate (length g.lasts) 0

      none_there : (i : ℕ) → (i < length g.lasts) ⊎ (length g.lasts ≤ i) → get_or (replicate {A = ℕ} (length g.lasts) 0) i 0 ≡ 0
      none_there i (inl lt) = get_or-replicate (length g.lasts) i 0 0 lt
      none_there i (inr past) = get_or_past (replicate {A = ℕ} (length g.lasts) 0) i 0 (omega (arith, past, length-replicate {A = ℕ} (length g.lasts) 0))

      begin : IsListing g order (replicate {A = ℕ} (length g.lasts) 0) []
      begin = nothing_listed g order (replicate {A = ℕ} (length g.lasts) 0) (length-replicate (length g.lasts) 0) (λ i. none_there i (cases_lt i (length g.lasts)))

      go : ((i : ℕ) × (i < length g.lasts) × (get_or (replicate {A = ℕ} (length g.lasts) 0) i 0 ≤ last_in g i)) ⊎ ((i : ℕ) → i < length g.lasts → last_in g i < get_or (replicate {A = ℕ} (length g.lasts) 0) i 0) → Outcome
      go (inl a) = work graph (suc (work_left (replicate {A = ℕ} (length g.lasts) 0) [])) (replicate {A = ℕ} (length g.lasts) 0) [] [] a.0 (work_begins _ [] a.0 begin) a.1 a.2 (omega arith)
      go (inr all) = inl ([], complete g order (replicate {A = ℕ} (length g.lasts) 0) [] begin all)

-- an order is cyclic exactly where it has a cycle as a list of pairs
pub cyclic_where_a_cycle : (g : Graph) (order : ℕ → Option Side) → IsGraph g → IsCyclic g order ↔ ((cycle : List PairId) × IsCycle g order cycle)
cyclic_where_a_cycle g order graph = (λ none. go none (list_or_cycle g order graph), λ c. cycle_refutes g order c.0 c.1)
  where
    go : IsCyclic g order → ((list : List Visit) × IsSorted g order list) ⊎ ((cycle : List PairId) × IsCycle g order cycle) → (cycle : List PairId) × IsCycle g order cycle
    go none (inl l) = absurd (none l.0 l.1)
    go none (inr c) = c
