-- Where an order has a cycle, no list puts each edge forward.
use Rattle.std.proofs.Common.{ℕ, suc, zero, ◌≡◌, ◌+◌, ◌-◌, ◌<◌, ◌≤◌, ◌⊎◌, List, [], ◌∷◌, Some, Option, sym, ap, ◌∙◌, subst, inl, inr, arith, length, get_or}
use Rattle.std.specs.Prelude.{slice_get}
use Rattle.std.proofs.lemmas.Bool.{cases_order}
use Rattle.std.proofs.lemmas.Option.{slice_get_within, get_or_from_slice_get}
use Rattle.fleet_base.specs.declared.geometry.Visit.{Visit}
use Rattle.fleet_base.specs.declared.order.PairId.{PairId}
use Rattle.fleet_base.specs.declared.order.Side.{Side}
use Rattle.fleet_base.specs.Lists.{Chain}
use Rattle.fleet_base.specs.Order.{Graph, IsVisit, last_in, next_visit, first_visit, second_visit, HasEdge, IsSorted, LeadsTo, IsCycle, IsCyclic}
use Rattle.fleet_base.proofs.Members.{place_of_element}
use Rattle.fleet_base.proofs.Edges.{edge_unique}

module _ (g : Graph) (order : ℕ → Option Side) (list : List Visit) (sorted : IsSorted g order list) where
  -- one place for a visit
  same_place : (j k : ℕ) (v : Visit) → slice_get list j ≡ Some v → slice_get list k ≡ Some v → j ≡ k
  same_place j k v a b =
      let same : get_or list j v ≡ get_or list k v = get_or_from_slice_get list j v v a ∙ sym (get_or_from_slice_get list k v v b) in
      go same (cases_order j k)
    where
      go : get_or list j v ≡ get_or list k v → (j ≡ k) ⊎ ((j < k) ⊎ (k < j)) → j ≡ k
      go same (inl e) = e
      go same (inr (inl lt)) = absurd (sorted.once j k v lt (slice_get_within list k v b) same)
      go same (inr (inr lt)) = absurd (sorted.once k j v lt (slice_get_within list j v a) (sym same))

  -- the visits of a robot stand in their order
  along : (i k d : ℕ) → i < length g.lasts → k + d ≤ last_in g i → (a b : ℕ) → slice_get list a ≡ Some (record { robot = i; index = k }) → slice_get list b ≡ Some (record { robot = i; index = k + d }) → a ≤ b
  along i k zero here within a b ea eb =
      let e : a ≡ b = same_place a b (record { robot = i; index = k }) ea (eb ∙ ap (λ (n : ℕ). Some (record { robot = i; index = n })) (omega arith)) in
      omega arith
  along i k (suc d) here within a b ea eb =
      let before : IsVisit g (record { robot = i; index = k + d }) = record { robot = here; index = omega arith } in
      let p = place_of_element list (record { robot = i; index = k + d }) (sorted.each _ before) in
      let low = along i k d here (omega arith) a p.0 ea p.2 in
      let step : next_visit (record { robot = i; index = k + d }) ≡ record { robot = i; index = k + suc d } = λ t. record { robot = i; index = next t } in
      let lt = sorted.forward p.0 b (record { robot = i; index = k + d }) (record { robot = i; index = k + suc d }) p.2 eb (inl (sym step)) in
      omega (arith, low, lt)
    where
      next : (k + d) + 1 ≡ k + suc d
      next = omega arith

  -- where the head of a pair's edge stands
  record HeadAt (q place : ℕ) : Type 0 where
    pub tail : Visit
    pub head : Visit
    pub edge : HasEdge g order q tail head
    pub at : slice_get list place ≡ Some head

  -- the head of an edge that leads on is there
  head_there : (q r : ℕ) → LeadsTo g order q r → (place : ℕ) × HeadAt q place
  head_there q r l =
      let here : l.head.robot < length g.lasts = omega (arith, l.there.robot, l.robot) in
      let up : l.head.index ≤ last_in g l.head.robot = omega (arith, l.onward, subst (λ (i : ℕ). l.next_tail.index ≤ last_in g i) (sym l.robot) l.there.index) in
      let p = place_of_element list l.head (sorted.each l.head (record { robot = here; index = up })) in
      (p.0, record { tail = l.tail; head = l.head; edge = l.edge; at = p.2 })

  -- it stands before the head of the edge to which it leads
  step : (q r a b : ℕ) → LeadsTo g order q r → HeadAt q a → HeadAt r b → a < b
  step q r a b l x y =
      let head : x.head ≡ l.head = (edge_unique g order q x.tail x.head l.tail l.head x.edge l.edge).1 in
      let next : y.head ≡ l.next_head = (edge_unique g order r y.tail y.head l.next_tail l.next_head y.edge l.next_edge).1 in
      let p = place_of_element list l.next_tail (sorted.each l.next_tail l.there) in
      let lt = sorted.forward p.0 b l.next_tail l.next_head p.2 (y.at ∙ ap Some next) (inr (r, l.next_edge)) in
      let reach : l.head.index + (l.next_tail.index - l.head.index) ≡ l.next_tail.index = omega (arith, l.onward) in
      let up : l.head.index + (l.next_tail.index - l.head.index) ≤ last_in g l.next_tail.robot = omega (arith, reach, l.there.index) in
      let from : slice_get list a ≡ Some (record { robot = l.next_tail.robot; index = l.head.index }) = x.at ∙ ap Some (head ∙ (λ t. record { robot = l.robot t; index = l.head.index })) in
      let to : slice_get list p.0 ≡ Some (record { robot = l.next_tail.robot; index = l.head.index + (l.next_tail.index - l.head.index) }) = p.2 ∙ ap (λ (n : ℕ). Some (record { robot = l.next_tail.robot; index = n })) (sym reach) in
      omega (arith, lt, along l.next_tail.robot l.head.index (l.next_tail.index - l.head.index) l.there.robot up a p.0 from to)

  rises : (q : PairId) (rest : List PairId) (r : PairId) (a b : ℕ) → Chain (λ x y. LeadsTo g order x.0 y.0) q rest r → HeadAt q.0 a → HeadAt r.0 b → a < b
  rises q [] r a b c x y = step q.0 r.0 a b c x y
  rises q (p ∷ []) r a b c x y =
      let m = head_there p.0 r.0 c.1 in
      omega (arith, step q.0 p.0 a m.0 c.0 x m.1, step p.0 r.0 m.0 b c.1 m.1 y)
  rises q (p ∷ s ∷ rest) r a b c x y =
      let m = head_there p.0 s.0 c.1.0 in
      omega (arith, step q.0 p.0 a m.0 c.0 x m.1, rises p (s ∷ rest) r m.0 b c.1 m.1 y)

  no_cycle : (cycle : List PairId) → IsCycle g order cycle → ⊥
  no_cycle [] c = c
  no_cycle (q ∷ []) c =
      let m = head_there q.0 q.0 c in
      omega (arith, step q.0 q.0 m.0 m.0 c m.1 m.1)
  no_cycle (q ∷ r ∷ rest) c =
      let m = head_there q.0 r.0 c.0 in
      omega (arith, rises q (r ∷ rest) q m.0 m.0 c m.1 m.1)

pub cycle_refutes : (g : Graph) (order : ℕ → Option Side) (cycle : List PairId) → IsCycle g order cycle → IsCyclic g order
cycle_refutes g order cycle c = λ list sorted. no_cycle g order list sorted cycle c
