-- The length of a path is at most the last tick of its robot.
use Rattle.std.proofs.Common.{ℕ, suc, zero, ◌≡◌, ◌+◌, ◌-◌, ◌<◌, ◌≤◌, ◌⊎◌, max, List, [], ◌∷◌, Some, None, Option, true, false, Bool, cond, refl, sym, ap, subst, inl, inr, arith, length, ltb, eqb}
use Rattle.std.specs.Prelude.{option_and_then, sum_by, unwrap_or, IsSome}
use Rattle.std.specs.List.{range_with_len}
use Rattle.std.proofs.lemmas.List.Sums.{sum_by-cons}
use Rattle.std.proofs.lemmas.Bool.{cases_lt, ltb-true, ltb-false, eqb-true}
use Rattle.fleet_base.specs.declared.geometry.Visit.{Visit}
use Rattle.fleet_base.specs.declared.order.PairId.{PairId}
use Rattle.fleet_base.specs.declared.order.Side.{Side}
use Rattle.fleet_base.specs.declared.order.Side.TheVariants.{Lower, Higher}
use Rattle.fleet_base.specs.Order.{Graph, IsGraph, IsVisit, HasEdge, last_in, next_visit, first_visit}
use Rattle.fleet_base.specs.State.{FleetState, HasArrived, arrived_count, released_count, arrival_tick_of, release_tick_of, duration_of}
use Rattle.fleet_base.specs.Rules.{IsFleetState}
use Rattle.fleet_base.specs.Schedule.{IsSchedule, ObeysEdge, end_sum_of}
use Rattle.cert_tree.specs.declared.node.CertPath.{CertPath}
use Rattle.fleet_base.specs.declared.order.Edge.{Edge}
use Rattle.fleet_base.specs.Paths.{edge_in, travel, leads_on, walk_end, coming, start_tick, has_finished, start_robot, finished_length, path_length}
use Rattle.cert_tree.specs.Paths.{path_for, length_for, ArePaths, total_length}
use Rattle.fleet_base.proofs.Walking.{CanGo, can_go, edge_has}
use Rattle.fleet_base.proofs.Edges.{head_there}
use Rattle.fleet_base.proofs.Costs.{range_sum}
use Rattle.fleet_base.specs.Open.{KeepsClosed}
use Rattle.cert_tree.proofs.EdgeLaws.{visit, visit_before}
use Rattle.cert_tree.specs.Orders.{ObeysPairs}
use Rattle.cert_tree.proofs.Lawful.{tail_arrived}

-- the first leg of a walk that gets to its end
first_leg : (g : Graph) (x : FleetState) (order : ℕ → Option Side) (q : PairId) (qs : List PairId) (i : ℕ) (at : Visit) (tick end : ℕ)
    → walk_end g x order i at tick (q ∷ qs) ≡ Some end → (e : Edge) × (edge_in g order q.0 ≡ Some e) × CanGo g at e.tail
first_leg g x order q qs i at tick end h = go (edge_in g order q.0) refl h
  where
    on_edge : (e : Edge) → edge_in g order q.0 ≡ Some e → (b : Bool) → leads_on g at e.tail ≡ b
        → cond b (walk_end g x order i e.head (tick + travel x at e.tail.index + duration_of x e.head) qs) None ≡ Some end → (e : Edge) × (edge_in g order q.0 ≡ Some e) × CanGo g at e.tail
    on_edge e is false t k = cc
    on_edge e is true t k = (e, is, can_go g at e.tail t)

    go : (o : Option Edge) → edge_in g order q.0 ≡ o
        → option_and_then (λ (e : Edge). cond (leads_on g at e.tail) (walk_end g x order i e.head (tick + travel x at e.tail.index + duration_of x e.head) qs) None) o ≡ Some end
        → (e : Edge) × (edge_in g order q.0 ≡ Some e) × CanGo g at e.tail
    go None is k = cc
    go (Some e) is k = on_edge e is (leads_on g at e.tail) refl k

-- the robot of an edge's tail is there
tail_robot : (g : Graph) (order : ℕ → Option Side) (q : ℕ) (u v : Visit) → IsGraph g → HasEdge g order q u v → u.robot < length g.lasts
tail_robot g order q u v is edge = subst (λ (w : Visit). w.robot < length g.lasts) (sym edge.tail) (of_side edge.side)
  where
    of_side : (d : Side) → (next_visit (first_visit edge.pair d)).robot < length g.lasts
    of_side Lower = (is.lower q edge.pair edge.listed).robot
    of_side Higher = (is.higher q edge.pair edge.listed).robot

module _ (g : Graph) (x : FleetState) (state : IsFleetState g x) (order : ℕ → Option Side) (keeps : KeepsClosed g x order)
    (s : Visit → ℕ) (schedule : IsSchedule g x s) (goes : (v : Visit) → IsVisit g (next_visit v) → ObeysEdge x s v (next_visit v)) (obeys : ObeysPairs g x order s) where
  -- along a robot the ticks are no earlier than the moves that lead there
  ahead : (d i k : ℕ) → arrived_count x i ≤ k → IsVisit g (visit i (k + d)) → s (visit i k) + sum_by (λ m. duration_of x (visit i m)) (range_with_len (k + 1) d) ≤ s (visit i (k + d))
  ahead zero i k n v = let e = ap (λ m. s (visit i m)) (let z : k ≡ k + 0 = omega arith in z) in omega arith
  ahead (suc d) i k n v =
      let e : k + 1 + d ≡ k + suc d = omega arith in
      let w : IsVisit g (visit i (k + 1 + d)) = subst (λ m. IsVisit g (visit i m)) (sym e) v in
      let first = next (goes (visit i k) (visit_before g i (k + 1 + d) (k + 1) w (omega arith))) in
      let rest = ahead d i (k + 1) (omega arith) w in
      let same = ap (λ m. s (visit i m)) e in
      let sum = sum_by-cons (λ m. duration_of x (visit i m)) (k + 1) (range_with_len (k + 1 + 1) d) in
      omega arith
    where
      next : ObeysEdge x s (visit i k) (visit i (k + 1)) → s (visit i k) + duration_of x (visit i (k + 1)) ≤ s (visit i (k + 1))
      next (inl h) = absurd (omega (arith, h))
      next (inr le) = le

  on : (at : Visit) (k : ℕ) → arrived_count x at.robot ≤ at.index → IsVisit g (visit at.robot k) → at.index ≤ k → s at + travel x at k ≤ s (visit at.robot k)
  on at k n v le =
      let e : at.index + (k - at.index) ≡ k = omega arith in
      let l : (k + 1) - (at.index + 1) ≡ k - at.index = omega arith in
      let h = ahead (k - at.index) at.robot at.index n (subst (λ m. IsVisit g (visit at.robot m)) (sym e) v) in
      let t = ap (λ m. sum_by (λ r. duration_of x (visit at.robot r)) (range_with_len (at.index + 1) m)) l in
      let same = ap (λ m. s (visit at.robot m)) e in
      omega arith

  -- where a walk goes over an edge it comes to a visit that has not arrived, no earlier than it says
  over : (q : ℕ) (u v : Visit) → HasEdge g order q u v → arrived_count x u.robot ≤ u.index → (arrived_count x v.robot ≤ v.index) × (s u + duration_of x v ≤ s v)
  over q u v e n = go (cases_lt v.index (arrived_count x v.robot)) (obeys q u v e)
    where
      go : (v.index < arrived_count x v.robot) ⊎ (arrived_count x v.robot ≤ v.index) → ObeysEdge x s u v → (arrived_count x v.robot ≤ v.index) × (s u + duration_of x v ≤ s v)
      go (inl h) o = absurd (let t = tail_arrived g x state order keeps q u v e h in omega (arith, t))
      go (inr le) (inl h) = absurd (omega (arith, h))
      go (inr le) (inr o) = (le, o)

  walk_below : (pairs : List PairId) (i : ℕ) (at : Visit) (tick end : ℕ) → arrived_count x at.robot ≤ at.index → IsVisit g at → tick ≤ s at → walk_end g x order i at tick pairs ≡ Some end → end ≤ s (visit i (last_in g i))
  walk_below [] i at tick end n v le h = go (eqb at.robot i) refl h
    where
      go : (b : Bool) → eqb at.robot i ≡ b → cond b (Some (tick + travel x at (last_in g i))) None ≡ Some end → end ≤ s (visit i (last_in g i))
      go false e k = cc
      go true e k =
          let r = eqb-true at.robot i e in
          let l : IsVisit g (visit at.robot (last_in g at.robot)) = record { robot = v.robot; index = omega arith } in
          let z = on at (last_in g at.robot) n l v.index in
          let t = ap (λ j. s (visit j (last_in g j))) r in
          let t' = ap (λ j. travel x at (last_in g j)) r in
          let is : tick + travel x at (last_in g i) ≡ end = cc in
          omega arith
  walk_below (q ∷ qs) i at tick end n v le h = go (edge_in g order q.0) refl h (λ head t m there l k. walk_below qs i head t end m there l k)
    where
      on_edge : (e : Edge) → edge_in g order q.0 ≡ Some e → (b : Bool) → leads_on g at e.tail ≡ b
          → cond b (walk_end g x order i e.head (tick + travel x at e.tail.index + duration_of x e.head) qs) None ≡ Some end
          → ((head : Visit) (t : ℕ) → arrived_count x head.robot ≤ head.index → IsVisit g head → t ≤ s head → walk_end g x order i head t qs ≡ Some end → end ≤ s (visit i (last_in g i))) → end ≤ s (visit i (last_in g i))
      on_edge e is false t k rest = cc
      on_edge e is true t k rest =
          let c = can_go g at e.tail t in
          let edge = edge_has g order q.0 e is in
          let tail_there : IsVisit g (visit at.robot e.tail.index) = record { robot = v.robot; index = subst (λ j. e.tail.index ≤ last_in g j) (sym c.robot) c.within } in
          let same : visit at.robot e.tail.index ≡ e.tail = λ j. record { robot = c.robot j; index = e.tail.index } in
          let z = on at e.tail.index n tail_there c.onward in
          let m : arrived_count x e.tail.robot ≤ e.tail.index = subst (λ j. arrived_count x j ≤ e.tail.index) c.robot (omega (arith, c.onward)) in
          let o = over q.0 e.tail e.head edge m in
          let f = ap s same in
          rest e.head (tick + travel x at e.tail.index + duration_of x e.head) o.0 (head_there g order q.0 e.tail e.head state.fleet.graph edge) (omega (arith, o.1)) k

      go : (o : Option Edge) → edge_in g order q.0 ≡ o
          → option_and_then (λ (e : Edge). cond (leads_on g at e.tail) (walk_end g x order i e.head (tick + travel x at e.tail.index + duration_of x e.head) qs) None) o ≡ Some end
          → ((head : Visit) (t : ℕ) → arrived_count x head.robot ≤ head.index → IsVisit g head → t ≤ s head → walk_end g x order i head t qs ≡ Some end → end ≤ s (visit i (last_in g i))) → end ≤ s (visit i (last_in g i))
      go None is k rest = cc
      go (Some e) is k rest = on_edge e is (leads_on g at e.tail) refl k rest

  -- the first visit that has not arrived does so no earlier than a walk that begins there
  pub started : (i : ℕ) → IsVisit g (coming x i) → start_tick x i ≤ s (coming x i)
  started i v = go (ltb (arrived_count x i) (released_count x i)) refl
    where
      n : ¬ HasArrived x (coming x i)
      n h = omega (arith, h)

      back : arrived_count x i - 1 + 1 ≡ arrived_count x i
      back = omega (arith, state.releases.started i v.robot)

      before : visit i (arrived_count x i - 1 + 1) ≡ coming x i
      before = ap (visit i) back

      last_one : HasArrived x (visit i (arrived_count x i - 1))
      last_one = omega (arith, state.releases.started i v.robot)

      waited : ObeysEdge x s (visit i (arrived_count x i - 1)) (visit i (arrived_count x i - 1 + 1)) → arrival_tick_of x (visit i (arrived_count x i - 1)) + duration_of x (coming x i) ≤ s (coming x i)
      waited o = go (subst (λ (w : Visit). ObeysEdge x s (visit i (arrived_count x i - 1)) w) before o)
        where
          go : ObeysEdge x s (visit i (arrived_count x i - 1)) (coming x i) → arrival_tick_of x (visit i (arrived_count x i - 1)) + duration_of x (coming x i) ≤ s (coming x i)
          go (inl h) = absurd (n h)
          go (inr le) = omega (arith, le, schedule.arrived (visit i (arrived_count x i - 1)) (visit_before g i (arrived_count x i) (arrived_count x i - 1) v (omega arith)) last_one)

      go : (b : Bool) → ltb (arrived_count x i) (released_count x i) ≡ b
          → cond b (max x.clock (max (release_tick_of x (coming x i) + duration_of x (coming x i)) (arrival_tick_of x (visit i (arrived_count x i - 1)) + duration_of x (coming x i)))) (x.clock + duration_of x (coming x i)) ≤ s (coming x i)
      go true e =
          let given = schedule.released (coming x i) v n (ltb-true _ _ e) in
          let w = waited (goes (visit i (arrived_count x i - 1)) (subst (λ (u : Visit). IsVisit g u) (sym before) v)) in
          omega (arith, given.0, given.1, w)
      go false e = schedule.ahead (coming x i) v n (λ r. omega (arith, r, ltb-false _ _ e))

  -- a robot on which a walk begins, if it gets anywhere, has a visit to come
  comes : (pairs : List PairId) (i end : ℕ) → i < length g.lasts → arrived_count x i ≤ last_in g i
      → walk_end g x order i (coming x (start_robot g order i pairs)) (start_tick x (start_robot g order i pairs)) pairs ≡ Some end → IsVisit g (coming x (start_robot g order i pairs))
  comes [] i end there left h = record { robot = there; index = left }
  comes (q ∷ qs) i end there left h =
      let l = first_leg g x order q qs i (coming x (start_robot g order i (q ∷ qs))) (start_tick x (start_robot g order i (q ∷ qs))) end h in
      let edge = edge_has g order q.0 l.0 l.1 in
      let here = tail_robot g order q.0 l.0.tail l.0.head state.fleet.graph edge in
      record {
        robot = subst (λ j. j < length g.lasts) (sym l.2.robot) here;
        index = subst (λ j. arrived_count x (start_robot g order i (q ∷ qs)) ≤ last_in g j) (sym l.2.robot) (omega (arith, l.2.onward, l.2.within));
      }

  -- the length of a path is at most the last tick of its robot
  pub path_below : (pairs : List PairId) (i end : ℕ) → i < length g.lasts → path_length g x order i pairs ≡ Some end → end ≤ s (visit i (last_in g i))
  path_below pairs i end there h = go (has_finished g x i) refl h
    where
      done : (pairs : List PairId) → last_in g i < arrived_count x i → finished_length g x i pairs ≡ Some end → end ≤ s (visit i (last_in g i))
      done [] a k =
          let e : arrival_tick_of x (visit i (last_in g i)) ≡ end = cc in
          omega (arith, e, schedule.arrived (visit i (last_in g i)) (record { robot = there; index = omega arith }) a)
      done (q ∷ qs) a k = cc

      go : (b : Bool) → has_finished g x i ≡ b → cond b (finished_length g x i pairs) (walk_end g x order i (coming x (start_robot g order i pairs)) (start_tick x (start_robot g order i pairs)) pairs) ≡ Some end
          → end ≤ s (visit i (last_in g i))
      go true e k = done pairs (ltb-true _ _ e) k
      go false e k =
          let v = comes pairs i end there (ltb-false _ _ e) k in
          walk_below pairs i (coming x (start_robot g order i pairs)) (start_tick x (start_robot g order i pairs)) end (omega arith) v (started (start_robot g order i pairs) v) k

  -- and all of them together are at most the sum of the last ticks
  pub total_below : (paths : List CertPath) → ArePaths g x order paths → total_length g x order paths ≤ end_sum_of g s
  total_below paths are = range_sum _ _ (length g.lasts - 0) 0 (λ i low high. each i (omega arith))
    where
      each : (i : ℕ) → i < length g.lasts → unwrap_or (length_for g x order paths i) 0 ≤ s (visit i (last_in g i))
      each i h = go (length_for g x order paths i) refl (are.each i h)
        where
          go : (o : Option ℕ) → length_for g x order paths i ≡ o → IsSome o → unwrap_or o 0 ≤ s (visit i (last_in g i))
          go None e k = omega arith
          go (Some end) e k = path_below (path_for paths i) i end h e
