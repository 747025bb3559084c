-- What a step of the work does to its state.
use Rattle.std.proofs.Common.{ℕ, ◌≡◌, ◌+◌, ◌<◌, ◌≤◌, ◌⊎◌, List, [], ◌∷◌, ◌++◌, Option, Bool, true, false, cond, eqb, refl, sym, ap, ◌∙◌, subst, inl, inr, arith, length, sum, append_assoc}
use Rattle.std.specs.Prelude.{Contains, slice_index, reverse}
use Rattle.std.proofs.Math.ListN.{set}
use Rattle.std.proofs.lemmas.Bool.{cases_eq, eqb-true, eqb-false}
use Rattle.std.proofs.lemmas.List.{append-nil, get_or-set_same, get_or-set_other, length_push, reverse-reverse, length-reverse}
use Rattle.std.proofs.lemmas.List.Sums.{sum_by-set}
use Rattle.fleet_base.specs.declared.geometry.Visit.{Visit}
use Rattle.fleet_base.specs.declared.order.PairId.{PairId}
use Rattle.fleet_base.specs.declared.order.Side.{Side}
use Rattle.fleet_base.specs.Order.{Graph, IsGraph, IsVisit, last_in, IsCycle}
use Rattle.fleet_base.proofs.Members.{in_cons, in_none}
use Rattle.plan_graph.specs.declared.work.Waiting.{Waiting}
use Rattle.plan_graph.specs.declared.work.Work.{Work}
use Rattle.plan_graph.specs.Limits.{visit_count}
use Rattle.plan_graph.specs.Views.{OrientedGraph, order_in}
use Rattle.plan_graph.specs.Listing.{front, ArePassed, IsFree, IsBlocked, Waits, robots_of, bottom, IsTrail, IsWorking}
use Rattle.plan_graph.specs.Working.{HasRoom, KeepsRoom, IsUnderway, IsAtWork, HasCycle, HasOrder, StepsTo, ListsRobot, ListsMore, PopsTo, pairs_back, steps_left}
use Rattle.plan_graph.proofs.Listing.{fewer_listed, nothing_listed, complete}
use Rattle.plan_graph.proofs.Waits.{distinct_from, trail_begin, trail_more, trail_closes, few_wait, working_there}
use Rattle.plan_graph.proofs.Places.{know_places_push, know_places_pop, reverse_push, waits_reversed}
use Rattle.plan_graph.proofs.Deciding.{work_waits, work_returns, work_alone, work_begins}
use Rattle.std.proofs.lemmas.Option.{slice_get_within}

-- ---- lists

waits_unreversed : (ws : List Waiting) (robot : ℕ) → Contains (robots_of (reverse ws)) robot → Contains (robots_of ws) robot
waits_unreversed ws robot h = subst (λ (vs : List Waiting). Contains (robots_of vs) robot) (reverse-reverse ws) (waits_reversed (reverse ws) robot h)

pub lists_more : (listed : List ℕ) (i : ℕ) → i < length listed → ListsMore listed (set listed i (slice_index listed i + 1))
lists_more listed i here j = go (cases_eq j i)
  where
    go : (j ≡ i) ⊎ (j ≡ i → ⊥) → slice_index listed j ≤ slice_index (set listed i (slice_index listed i + 1)) j
    go (inl e) = subst (λ (m : ℕ). slice_index listed m ≤ slice_index (set listed i (slice_index listed i + 1)) m) (sym e) (omega (arith, get_or-set_same listed i (slice_index listed i + 1) 0 here))
    go (inr ne) = omega (arith, get_or-set_other listed i j (slice_index listed i + 1) 0 ne)

-- what does not hold a visit back does not when more is listed
passed_kept : (g : Graph) (order : ℕ → Option Side) (old new : List ℕ) (v : Visit) (n : ℕ) → ListsMore old new → ArePassed g order old v n → ArePassed g order new v n
passed_kept g order old new v n more all k q lt e u edge there = omega (arith, all k q lt e u edge there, more u.robot)

front_other : (listed : List ℕ) (i n j : ℕ) → (j ≡ i → ⊥) → front listed j ≡ front (set listed i n) j
front_other listed i n j ne = λ t. record { robot = j; index = sym (get_or-set_other listed i j n 0 ne) t }

module _ (view : OrientedGraph) (listed passed place : List ℕ) (list : List Visit) (i : ℕ) where
  -- the robot at work waits
  underway_waits : IsGraph view.graph → (waiting : List Waiting) (q : PairId) (j n : ℕ) → IsUnderway view listed passed place list waiting i → i < length passed → i < length place
      → IsBlocked view.graph (order_in view) listed i q j → ArePassed view.graph (order_in view) listed (front listed i) n → (Contains (robots_of waiting) j → ⊥)
      → IsUnderway view listed (set passed i n) (set place i (length waiting)) list (waiting ++ record { robot = i; pair = q } ∷ []) j
  underway_waits graph waiting q j n s inside_passed inside_place blocked all new = record {
    working = subst (λ (ws : List Waiting). IsWorking view.graph (order_in view) listed list ws j) (sym (reverse_push waiting (record { robot = i; pair = q })))
        (work_waits view.graph (order_in view) graph listed list (reverse waiting) i j q s.working blocked (λ h. new (waits_unreversed waiting j h)));
    behind = λ m. behind m (cases_eq m i);
    places = know_places_push waiting place (record { robot = i; pair = q }) s.places inside_place
        (λ h. (distinct_from (i ∷ robots_of (reverse waiting)) s.working.apart).0 (waits_reversed waiting i h));
  }
    where
      behind : (m : ℕ) → (m ≡ i) ⊎ (m ≡ i → ⊥) → ArePassed view.graph (order_in view) listed (front listed m) (slice_index (set passed i n) m)
      behind m (inl e) = subst (λ (j : ℕ). ArePassed view.graph (order_in view) listed (front listed j) (slice_index (set passed i n) j)) (sym e)
          (subst (λ (k : ℕ). ArePassed view.graph (order_in view) listed (front listed i) k) (sym (get_or-set_same passed i n 0 inside_passed)) all)
      behind m (inr ne) = subst (λ (k : ℕ). ArePassed view.graph (order_in view) listed (front listed m) k) (sym (get_or-set_other passed i m n 0 ne)) (s.behind m)

  behind_more : ((j : ℕ) → ArePassed view.graph (order_in view) listed (front listed j) (slice_index passed j)) → i < length listed → i < length passed → (j : ℕ)
      → ArePassed view.graph (order_in view) (set listed i (slice_index listed i + 1)) (front (set listed i (slice_index listed i + 1)) j) (slice_index (set passed i 0) j)
  behind_more all inside inside_passed j = go (cases_eq j i)
    where
      go : (j ≡ i) ⊎ (j ≡ i → ⊥) → ArePassed view.graph (order_in view) (set listed i (slice_index listed i + 1)) (front (set listed i (slice_index listed i + 1)) j) (slice_index (set passed i 0) j)
      go (inl e) = λ k q lt. absurd (omega (arith, lt, ap (λ (m : ℕ). slice_index (set passed i 0) m) e, get_or-set_same passed i 0 0 inside_passed))
      go (inr ne) = subst (λ (v : Visit). ArePassed view.graph (order_in view) (set listed i (slice_index listed i + 1)) v (slice_index (set passed i 0) j)) (front_other listed i (slice_index listed i + 1) j ne)
          (subst (λ (n : ℕ). ArePassed view.graph (order_in view) (set listed i (slice_index listed i + 1)) (front listed j) n) (sym (get_or-set_other passed i j 0 0 ne))
          (passed_kept view.graph (order_in view) listed (set listed i (slice_index listed i + 1)) (front listed j) (slice_index passed j) (lists_more listed i inside) (all j)))

  -- its next visit is listed, and the last robot that waited is at work again
  underway_returns : (waiting : List Waiting) (w : Waiting) → IsUnderway view listed passed place list (waiting ++ w ∷ []) i → IsVisit view.graph (front listed i) → i < length passed → IsFree view.graph (order_in view) listed (front listed i)
      → IsUnderway view (set listed i (slice_index listed i + 1)) (set passed i 0) place (list ++ front listed i ∷ []) waiting w.robot
  underway_returns waiting w s here inside_passed free = record {
    working = work_returns view.graph (order_in view) listed list w (reverse waiting) i
        (subst (λ (ws : List Waiting). IsWorking view.graph (order_in view) listed list ws i) (reverse_push waiting w) s.working) here.robot here.index free;
    behind = behind_more s.behind (omega (arith, here.robot, s.working.listing.robots)) inside_passed;
    places = know_places_pop waiting w place s.places;
  }

  -- or none waited, and it goes on
  underway_alone : IsUnderway view listed passed place list [] i → IsVisit view.graph (front listed i) → i < length passed → IsFree view.graph (order_in view) listed (front listed i)
      → IsUnderway view (set listed i (slice_index listed i + 1)) (set passed i 0) place (list ++ front listed i ∷ []) [] i
  underway_alone s here inside_passed free = record {
    working = work_alone view.graph (order_in view) listed list i s.working here.robot here.index free;
    behind = behind_more s.behind (omega (arith, here.robot, s.working.listing.robots)) inside_passed;
    places = λ k w e. cc;
  }

  -- fewer robots wait than there are, and not all visits are listed
  pub underway_few : (waiting : List Waiting) → IsUnderway view listed passed place list waiting i → IsVisit view.graph (front listed i) → (length waiting < length view.graph.lasts) × (sum listed < visit_count view.graph)
  underway_few waiting s here = (
    omega (arith, few_wait view.graph (order_in view) listed (reverse waiting) i s.working.waits here.robot s.working.apart, length-reverse waiting),
    fewer_listed view.graph (order_in view) listed list s.working.listing i here.robot here.index,
  )

-- ---- the cycle

module _ (g : Graph) (order : ℕ → Option Side) (listed : List ℕ) (q : PairId) (k j : ℕ) (blocked : IsBlocked g order listed k q j) where
  cycle_back : (ws : List Waiting) (i : ℕ) (rest : List PairId) → IsTrail g order listed q rest i → Waits g order listed ws i → Contains (robots_of ws) j → IsCycle g order (q ∷ rest ++ pairs_back ws j)
  cycle_back [] i rest t s h = absurd (in_none j h)
  cycle_back (w ∷ ws) i rest t s h =
      subst (λ (ps : List PairId). IsCycle g order (q ∷ ps)) (append_assoc rest (w.pair ∷ []) (cond (eqb w.robot j) [] (pairs_back ws j)))
      (go (eqb w.robot j) refl (in_cons w.robot (robots_of ws) j h) (λ m. cycle_back ws w.robot (rest ++ w.pair ∷ []) (trail_more g order listed q rest i w t s.0) s.1 m))
    where
      trail : IsTrail g order listed q (rest ++ w.pair ∷ []) w.robot
      trail = trail_more g order listed q rest i w t s.0

      later : (w.robot ≡ j → ⊥) → (w.robot ≡ j) ⊎ Contains (robots_of ws) j → Contains (robots_of ws) j
      later ne (inl e) = absurd (ne e)
      later ne (inr m) = m

      go : (b : Bool) → eqb w.robot j ≡ b → (w.robot ≡ j) ⊎ Contains (robots_of ws) j → (Contains (robots_of ws) j → IsCycle g order (q ∷ (rest ++ w.pair ∷ []) ++ pairs_back ws j))
          → IsCycle g order (q ∷ (rest ++ w.pair ∷ []) ++ cond b [] (pairs_back ws j))
      go true e o further =
          let closed : IsCycle g order (q ∷ (rest ++ w.pair ∷ [])) =
          trail_closes g order listed q (rest ++ w.pair ∷ []) k j (subst (λ (m : ℕ). IsTrail g order listed q (rest ++ w.pair ∷ []) m) (eqb-true w.robot j e) trail) blocked
          in
          subst (λ (ps : List PairId). IsCycle g order (q ∷ ps)) (sym (append-nil (rest ++ w.pair ∷ []))) closed
      go false e o further = further (later (eqb-false w.robot j e) o)

  pub cycle_from : (waiting : List Waiting) → Waits g order listed (reverse waiting) k → Contains (robots_of waiting) j → IsCycle g order (q ∷ pairs_back (reverse waiting) j)
  cycle_from waiting s h = cycle_back (reverse waiting) k [] (trail_begin g order listed k j q blocked) s (waits_reversed waiting j h)

-- ---- the room

pub room_kept : (g : Graph) (old new : Work) → HasRoom g old → KeepsRoom old new → HasRoom g new
room_kept g old new r k = record {
  listed = k.listed ∙ r.listed;
  passed = k.passed ∙ r.passed;
  place = k.place ∙ r.place;
  waiting = omega (arith, r.waiting, k.waiting);
  cycle = omega (arith, r.cycle, k.cycle);
  order = k.order ∙ r.order;
}

underway_same : (view : OrientedGraph) {listed listed' passed passed' place place' : List ℕ} {list list' : List Visit} {waiting waiting' : List Waiting} {i i' : ℕ}
    → listed ≡ listed' → passed ≡ passed' → place ≡ place' → list ≡ list' → waiting ≡ waiting' → i ≡ i' → IsUnderway view listed passed place list waiting i → IsUnderway view listed' passed' place' list' waiting' i'
underway_same view {listed} {listed'} {passed} {passed'} {place} {place'} {list} {list'} {waiting} {waiting'} {i} {i'} a b c d e f u =
    subst (λ (x : List ℕ). IsUnderway view x passed' place' list' waiting' i') a
    (subst (λ (x : List ℕ). IsUnderway view listed x place' list' waiting' i') b
    (subst (λ (x : List ℕ). IsUnderway view listed passed x list' waiting' i') c
    (subst (λ (x : List Visit). IsUnderway view listed passed place x waiting' i') d
    (subst (λ (x : List Waiting). IsUnderway view listed passed place list x i') e
    (subst (λ (x : ℕ). IsUnderway view listed passed place list waiting x) f u)))))

-- ---- the steps

module _ (view : OrientedGraph) (old new : Work) (i : ℕ) (s : IsAtWork view old i) (here : IsVisit view.graph (front old.listed.items i)) where
  inside_listed : i < length old.listed.items
  inside_listed = omega (arith, here.robot, s.underway.working.listing.robots)

  inside_passed : i < length old.passed.items
  inside_passed = omega (arith, here.robot, s.room.passed, old.passed.ok.0)

  pub steps_to_lists : (n next : ℕ) → n ≡ slice_index old.listed.items i → IsFree view.graph (order_in view) old.listed.items (front old.listed.items i)
      → new.order.items ≡ old.order.items ++ record { robot = i; index = n } ∷ [] → new.listed.items ≡ set old.listed.items i (n + 1) → new.passed.items ≡ set old.passed.items i 0
      → PopsTo old.waiting.items new.waiting.items i next → new.place ≡ old.place → new.cycle ≡ old.cycle → KeepsRoom old new → StepsTo view old new i next
  steps_to_lists n next is free order listed passed pops place cycle room = record {
    work = record { room = room_kept view.graph old new s.room room; underway = (pop_case pops).0; no_cycle = ap (λ c. c.items) cycle ∙ s.no_cycle };
    begun = (pop_case pops).1;
    more = subst (λ (l : List ℕ). ListsMore old.listed.items l) (sym listed_is) (lists_more old.listed.items i inside_listed);
    fewer = fewer;
  }
    where
      listed_is : new.listed.items ≡ set old.listed.items i (slice_index old.listed.items i + 1)
      listed_is = listed ∙ ap (λ (m : ℕ). set old.listed.items i (m + 1)) is

      order_is : new.order.items ≡ old.order.items ++ front old.listed.items i ∷ []
      order_is = order ∙ ap (λ (m : ℕ). old.order.items ++ record { robot = i; index = m } ∷ []) is

      place_is : new.place.items ≡ old.place.items
      place_is = ap (λ p. p.items) place

      pop_case : PopsTo old.waiting.items new.waiting.items i next → IsUnderway view new.listed.items new.passed.items new.place.items new.order.items new.waiting.items next × (bottom (reverse new.waiting.items) next ≡ bottom (reverse old.waiting.items) i)
      pop_case (inl (w, e, next_is)) =
          let before = subst (λ (ws : List Waiting). IsUnderway view old.listed.items old.passed.items old.place.items old.order.items ws i) e s.underway in
          let after = underway_returns view old.listed.items old.passed.items old.place.items old.order.items i new.waiting.items w before here inside_passed free in
          let reversed : reverse old.waiting.items ≡ w ∷ reverse new.waiting.items = ap (λ (ws : List Waiting). reverse ws) e ∙ reverse_push new.waiting.items w in (
            underway_same view (sym listed_is) (sym passed) (sym place_is) (sym order_is) refl (sym next_is) after,
            ap (λ (m : ℕ). bottom (reverse new.waiting.items) m) next_is ∙ sym (ap (λ (ws : List Waiting). bottom ws i) reversed),
          )
      pop_case (inr (none, none_new, next_is)) =
          let before = subst (λ (ws : List Waiting). IsUnderway view old.listed.items old.passed.items old.place.items old.order.items ws i) none s.underway in
          let after = underway_alone view old.listed.items old.passed.items old.place.items old.order.items i before here inside_passed free in (
            underway_same view (sym listed_is) (sym passed) (sym place_is) (sym order_is) (sym none_new) (sym next_is) after,
            (λ t. bottom (reverse (none_new t)) (next_is t)) ∙ sym (ap (λ (ws : List Waiting). bottom (reverse ws) i) none),
          )

      one_less : PopsTo old.waiting.items new.waiting.items i next → length old.waiting.items ≤ length new.waiting.items + 1
      one_less (inl (w, e, next_is)) = omega (arith, ap (λ (ws : List Waiting). length ws) e, length_push new.waiting.items w)
      one_less (inr (none, none_new, next_is)) = omega (arith, ap (λ (ws : List Waiting). length ws) none)

      sum_is : sum new.listed.items ≡ sum old.listed.items + 1
      sum_is = omega (arith, ap (λ (l : List ℕ). sum l) listed_is, sum_by-set (λ (x : ℕ). x) old.listed.items i (slice_index old.listed.items i + 1) 0 inside_listed)

      fewer : steps_left view.graph new.listed.items new.waiting.items < steps_left view.graph old.listed.items old.waiting.items
      fewer =
          let few = underway_few view old.listed.items old.passed.items old.place.items old.order.items i old.waiting.items s.underway here in
          omega (arith, few.0, few.1, one_less pops, sum_is)

  pub steps_to_waits : IsGraph view.graph → (q : PairId) (j n : ℕ) → IsBlocked view.graph (order_in view) old.listed.items i q j → ArePassed view.graph (order_in view) old.listed.items (front old.listed.items i) n → (Contains (robots_of old.waiting.items) j → ⊥)
      → new.waiting.items ≡ old.waiting.items ++ record { robot = i; pair = q } ∷ [] → new.place.items ≡ set old.place.items i (length old.waiting.items)
      → new.order ≡ old.order → new.cycle ≡ old.cycle → new.listed ≡ old.listed → new.passed.items ≡ set old.passed.items i n → HasRoom view.graph new → StepsTo view old new i j
  steps_to_waits graph q j n blocked all away waiting place order cycle listed passed room = record {
    work = record {
      room = room;
      underway = underway_same view (sym listed_is) (sym passed) (sym place) (ap (λ o. o.items) (sym order)) (sym waiting) refl
          (underway_waits view old.listed.items old.passed.items old.place.items old.order.items i graph old.waiting.items q j n s.underway inside_passed (omega (arith, here.robot, s.room.place, old.place.ok.0)) blocked all away);
      no_cycle = ap (λ c. c.items) cycle ∙ s.no_cycle;
    };
    begun = ap (λ (ws : List Waiting). bottom (reverse ws) j) waiting ∙ ap (λ (ws : List Waiting). bottom ws j) (reverse_push old.waiting.items (record { robot = i; pair = q }));
    more = λ m. omega (arith, ap (λ (l : List ℕ). slice_index l m) listed_is);
    fewer =
        let few = underway_few view old.listed.items old.passed.items old.place.items old.order.items i old.waiting.items s.underway here in
        omega (arith, few.0, ap (λ (l : List ℕ). sum l) listed_is, ap (λ (ws : List Waiting). length ws) waiting, length_push old.waiting.items (record { robot = i; pair = q }));
  }
    where
      listed_is : new.listed.items ≡ old.listed.items
      listed_is = ap (λ l. l.items) listed

  pub closes_cycle : (q : PairId) (j : ℕ) → IsBlocked view.graph (order_in view) old.listed.items i q j → Contains (robots_of old.waiting.items) j
      → new.cycle.items ≡ q ∷ pairs_back (reverse old.waiting.items) j → new.order.items ≡ [] → HasRoom view.graph new → HasCycle view new
  closes_cycle q j blocked waits cycle order room = record {
    room = room;
    cycle = subst (λ (ps : List PairId). IsCycle view.graph (order_in view) ps) (sym cycle) (cycle_from view.graph (order_in view) old.listed.items q i j blocked old.waiting.items s.underway.working.waits waits);
    no_order = order;
  }

-- ---- a visit as the code has it

module _ (g : Graph) (order : ℕ → Option Side) (listed listed' : List ℕ) (i k : ℕ) (same : listed' ≡ listed) (at : k ≡ slice_index listed i) where
  is_front : ◌≡◌ {A = Visit} (record { robot = i; index = k }) (front listed i)
  is_front = λ t. record { robot = i; index = at t }

  pub passed_there : (n m : ℕ) → n ≡ m → ArePassed g order listed (front listed i) m → ArePassed g order listed' (record { robot = i; index = k }) n
  passed_there n m e all =
      subst (λ (l : List ℕ). ArePassed g order l (record { robot = i; index = k }) n) (sym same)
      (subst (λ (v : Visit). ArePassed g order listed v n) (sym is_front)
      (subst (λ (x : ℕ). ArePassed g order listed (front listed i) x) (sym e) all))

  pub passed_here : (n : ℕ) → ArePassed g order listed' (record { robot = i; index = k }) n → ArePassed g order listed (front listed i) n
  passed_here n all =
      subst (λ (v : Visit). ArePassed g order listed v n) is_front
      (subst (λ (l : List ℕ). ArePassed g order l (record { robot = i; index = k }) n) same all)

  pub free_here : IsFree g order listed' (record { robot = i; index = k }) → IsFree g order listed (front listed i)
  free_here free =
      subst (λ (v : Visit). IsFree g order listed v) is_front
      (subst (λ (l : List ℕ). IsFree g order l (record { robot = i; index = k })) same free)

  pub blocked_here : (q : PairId) (j : ℕ) → IsBlocked g order listed' i q j → IsBlocked g order listed i q j
  blocked_here q j b = subst (λ (l : List ℕ). IsBlocked g order l i q j) same b

-- ---- the robot that began

-- while others wait, a visit of it is left
begun_left : (g : Graph) (order : ℕ → Option Side) (listed : List ℕ) (w : Waiting) (ws : List Waiting) (i : ℕ) → Waits g order listed (w ∷ ws) i → slice_index listed (bottom (w ∷ ws) i) ≤ last_in g (bottom (w ∷ ws) i)
begun_left g order listed w [] i s = s.0.here.index
begun_left g order listed w (v ∷ ws) i s = begun_left g order listed v ws w.robot s.1

-- where none is left, none waits
none_waits : (g : Graph) (order : ℕ → Option Side) (listed : List ℕ) (ws : List Waiting) (i : ℕ) → Waits g order listed ws i → last_in g (bottom ws i) < slice_index listed (bottom ws i) → ws ≡ []
none_waits g order listed [] i s done = refl
none_waits g order listed (w ∷ ws) i s done = absurd (omega (arith, done, begun_left g order listed w ws i s))

module _ (view : OrientedGraph) (old new : Work) (robot at_work : ℕ) (work : IsAtWork view new at_work) (begun : bottom (reverse new.waiting.items) at_work ≡ robot) where
  -- a visit of the robot at work is left where one is left of the robot that began
  pub at_work_there : robot < length view.graph.lasts → slice_index new.listed.items robot ≤ last_in view.graph robot → IsVisit view.graph (front new.listed.items at_work)
  at_work_there there left =
      let t = working_there view.graph (order_in view) new.listed.items (reverse new.waiting.items) at_work work.underway.working.waits
      (subst (λ (m : ℕ). m < length view.graph.lasts) (sym begun) there) (subst (λ (m : ℕ). slice_index new.listed.items m ≤ last_in view.graph m) (sym begun) left)
      in
      record { robot = t.0; index = t.1 }

  pub robot_listed : ListsMore old.listed.items new.listed.items → last_in view.graph robot < slice_index new.listed.items robot → ListsRobot view old new robot
  robot_listed more done =
      let none : reverse new.waiting.items ≡ [] =
      none_waits view.graph (order_in view) new.listed.items (reverse new.waiting.items) at_work work.underway.working.waits (subst (λ (m : ℕ). last_in view.graph m < slice_index new.listed.items m) (sym begun) done)
      in
      let at : at_work ≡ robot = sym (ap (λ (ws : List Waiting). bottom ws at_work) none) ∙ begun in
      record {
        work = subst (λ (m : ℕ). IsAtWork view new m) at work;
        alone = sym (reverse-reverse new.waiting.items) ∙ ap (λ (ws : List Waiting). reverse ws) none;
        all = done;
        more = more;
      }

-- ---- robot by robot

module _ (view : OrientedGraph) (w : Work) where
  -- where none waits, any robot may be at work
  pub moves_on : (i j : ℕ) → IsAtWork view w i → w.waiting.items ≡ [] → IsAtWork view w j
  moves_on i j s none = record {
    room = s.room;
    underway = record {
      working = subst (λ (ws : List Waiting). IsWorking view.graph (order_in view) w.listed.items w.order.items (reverse ws) j) (sym none)
          (work_begins view.graph (order_in view) w.listed.items w.order.items j s.underway.working.listing);
      behind = s.underway.behind;
      places = s.underway.places;
    };
    no_cycle = s.no_cycle;
  }

  -- an empty room is where the work begins
  pub begins : (i : ℕ) → HasRoom view.graph w → w.order.items ≡ [] → w.cycle.items ≡ [] → w.waiting.items ≡ []
      → ((j : ℕ) → slice_index w.listed.items j ≡ 0) → ((j : ℕ) → slice_index w.passed.items j ≡ 0) → IsAtWork view w i
  begins i room order cycle none listed passed = record {
    room = room;
    underway = record {
      working = subst (λ (vs : List Visit). IsWorking view.graph (order_in view) w.listed.items vs (reverse w.waiting.items) i) (sym order)
          (subst (λ (ws : List Waiting). IsWorking view.graph (order_in view) w.listed.items [] (reverse ws) i) (sym none)
          (work_begins view.graph (order_in view) w.listed.items [] i (nothing_listed view.graph (order_in view) w.listed.items (omega (arith, room.listed, w.listed.ok.0)) listed)));
      behind = λ j k q lt. absurd (omega (arith, lt, passed j));
      places = λ k x e. absurd (omega (arith, slice_get_within w.waiting.items k x e, ap (λ (ws : List Waiting). length ws) none));
    };
    no_cycle = cycle;
  }

  -- where all visits of all robots are listed, they are in order
  pub ends : (i : ℕ) → IsAtWork view w i → ((j : ℕ) → j < length view.graph.lasts → last_in view.graph j < slice_index w.listed.items j) → HasOrder view w
  ends i s all = record {
    room = s.room;
    order = complete view.graph (order_in view) w.listed.items w.order.items s.underway.working.listing all;
    no_cycle = s.no_cycle;
  }

-- with the visits of one robot more listed, those of all robots up to it are
pub listed_below : (view : OrientedGraph) (old new : Work) (i : ℕ) → ListsRobot view old new i → ((j : ℕ) → j < i → last_in view.graph j < slice_index old.listed.items j) → (j : ℕ) → j < i + 1 → last_in view.graph j < slice_index new.listed.items j
listed_below view old new i l done j h = go (cases_eq j i)
  where
    go : (j ≡ i) ⊎ (j ≡ i → ⊥) → last_in view.graph j < slice_index new.listed.items j
    go (inl e) = subst (λ (m : ℕ). last_in view.graph m < slice_index new.listed.items m) (sym e) l.all
    go (inr ne) = omega (arith, done j (omega arith), l.more j)
