-- A number that rises along robots and over edges: it has no cycle.
use Rattle.std.proofs.Common.{ℕ, suc, zero, ◌≡◌, ◌+◌, ◌-◌, ◌<◌, ◌≤◌, List, [], ◌∷◌, Option, sym, ap, subst, arith}
use Rattle.fleet_base.specs.declared.geometry.Visit.{Visit}
use Rattle.fleet_base.specs.declared.order.PairId.{PairId}
use Rattle.fleet_base.specs.declared.order.Side.{Side}
use Rattle.fleet_base.specs.Lists.{Chain}
use Rattle.fleet_base.specs.Order.{Graph, IsVisit, HasEdge, LeadsTo, IsCycle, next_visit}
use Rattle.fleet_base.proofs.Edges.{edge_unique}

abbrev pub visit : ℕ → ℕ → Visit
visit i k = record { robot = i; index = k }

pub visit_before : (g : Graph) (i k m : ℕ) → IsVisit g (visit i k) → m ≤ k → IsVisit g (visit i m)
visit_before g i k m v h = record { robot = v.robot; index = omega (arith, v.index) }

module _ (g : Graph) (order : ℕ → Option Side) (f : Visit → ℕ)
    (step : (v : Visit) → IsVisit g (next_visit v) → f v ≤ f (next_visit v))
    (across : (q : ℕ) (u v : Visit) → IsVisit g u → HasEdge g order q u v → f u < f v) where
  along : (d i k : ℕ) → IsVisit g (visit i (k + d)) → f (visit i k) ≤ f (visit i (k + d))
  along zero i k v = let e : k ≡ k + 0 = omega arith in let s = ap (λ m. f (visit i m)) e in omega arith
  along (suc d) i k v =
      let e : k + d + 1 ≡ k + suc d = omega arith in
      let w : IsVisit g (visit i (k + d + 1)) = subst (λ m. IsVisit g (visit i m)) (sym e) v in
      let first = along d i k (visit_before g i (k + d + 1) (k + d) w (omega arith)) in
      let second = step (visit i (k + d)) w in
      let s = ap (λ m. f (visit i m)) e in
      omega arith

  onward : (u v : Visit) → IsVisit g v → u.robot ≡ v.robot → u.index ≤ v.index → f u ≤ f v
  onward u v is r le =
      let e : u.index + (v.index - u.index) ≡ v.index = omega arith in
      let same : visit u.robot (u.index + (v.index - u.index)) ≡ v = λ j. record { robot = r j; index = e j } in
      let h = along (v.index - u.index) u.robot u.index (subst (λ (w : Visit). IsVisit g w) (sym same) is) in
      let s = ap f same in
      omega arith

  -- from the head of one pair's edge to that of the next
  leads : (q r : ℕ) (u v u' v' : Visit) → LeadsTo g order q r → HasEdge g order q u v → HasEdge g order r u' v' → f v < f v'
  leads q r u v u' v' l e e' =
      let a = edge_unique g order q u v l.tail l.head e l.edge in
      let b = edge_unique g order r u' v' l.next_tail l.next_head e' l.next_edge in
      let h = onward l.head l.next_tail l.there l.robot l.onward in
      let k = across r l.next_tail l.next_head l.there l.next_edge in
      let s = ap f a.1 in
      let t = ap f b.1 in
      omega arith

  climbs : (rest : List PairId) (q r : PairId) (u v u' v' : Visit) → Chain (λ (a b : PairId). LeadsTo g order a.0 b.0) q rest r → HasEdge g order q.0 u v → HasEdge g order r.0 u' v' → f v < f v'
  climbs [] q r u v u' v' c e e' = leads q.0 r.0 u v u' v' c e e'
  climbs (y ∷ ys) q r u v u' v' c e e' =
      let a = leads q.0 y.0 u v c.0.next_tail c.0.next_head c.0 e c.0.next_edge in
      let b = climbs ys y r c.0.next_tail c.0.next_head u' v' c.1 c.0.next_edge e' in
      omega arith

  -- there is no cycle
  pub no_cycle : (cycle : List PairId) → IsCycle g order cycle → ⊥
  no_cycle [] c = c
  no_cycle (q ∷ []) c = absurd (omega (arith, climbs [] q q c.tail c.head c.tail c.head c c.edge c.edge))
  no_cycle (q ∷ r ∷ rest) c = absurd (omega (arith, climbs (r ∷ rest) q q c.0.tail c.0.head c.0.tail c.0.head c c.0.edge c.0.edge))
