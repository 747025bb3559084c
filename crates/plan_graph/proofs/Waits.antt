-- Robots of which each waits for the next: where the last one waits for one of them, their pairs are a cycle.
use Rattle.std.proofs.Common.{ℕ, suc, ◌≡◌, ◌<◌, ◌≤◌, ◌⊎◌, List, [], ◌∷◌, ◌++◌, Option, refl, sym, ap, ◌∙◌, subst, inl, inr, arith, length, get_or}
use Rattle.std.specs.Prelude.{Contains}
use Rattle.std.proofs.lemmas.Bool.{cases_eq}
use Rattle.fleet_base.specs.declared.geometry.Visit.{Visit}
use Rattle.fleet_base.specs.declared.order.PairId.{PairId}
use Rattle.fleet_base.specs.declared.order.Side.{Side}
use Rattle.fleet_base.specs.declared.order.Side.TheVariants.{Lower, Higher}
use Rattle.fleet_base.specs.Lists.{Chain, AllDifferent}
use Rattle.fleet_base.specs.Order.{Graph, IsGraph, last_in, first_visit, second_visit, LeadsTo, IsCycle}
use Rattle.fleet_base.proofs.Members.{in_cons, in_none}
use Rattle.fleet_base.proofs.Sorting.{Distinct}
use Rattle.fleet_base.proofs.Walks.{few_below}
use Rattle.plan_graph.specs.declared.work.Waiting.{Waiting}
use Rattle.plan_graph.specs.Listing.{front, IsBlocked, Waits, bottom, robots_of, IsTrail}

pub chain_push : {X : Type 0} (R : X → X → Type 0) (x : X) (ys : List X) (y z : X) → Chain R x ys y → R y z → Chain R x (ys ++ y ∷ []) z
chain_push R x [] y z c last = (c, last)
chain_push R x (w ∷ ys) y z c last = (c.0, chain_push R w ys y z c.1 last)

pub length-robots_of : (ws : List Waiting) → length (robots_of ws) ≡ length ws
length-robots_of [] = refl
length-robots_of (w ∷ ws) = ap suc (length-robots_of ws)

-- a list whose elements differ has none among those after it
pub distinct_from : {X : Type 0} (xs : List X) → AllDifferent xs → Distinct xs
distinct_from [] a = tt
distinct_from (x ∷ xs) a = (λ h. a 0 (suc h.0) x (omega arith) (omega (arith, h.1)) (sym h.2), distinct_from xs (λ j k d lt within. a (suc j) (suc k) d (omega (arith, lt)) (omega (arith, within))))

module _ (g : Graph) (order : ℕ → Option Side) (listed : List ℕ) where
  pub leads : (i j x : ℕ) (q r : PairId) → IsBlocked g order listed i q j → IsBlocked g order listed x r i → LeadsTo g order q.0 r.0
  leads i j x q r a b = record {
    tail = a.tail;
    head = front listed i;
    edge = a.edge;
    next_tail = b.tail;
    next_head = front listed x;
    next_edge = b.edge;
    there = b.there;
    robot = sym b.robot;
    onward = b.unlisted;
  }

  pub trail_begin : (i j : ℕ) (q : PairId) → IsBlocked g order listed i q j → IsTrail g order listed q [] i
  trail_begin i j q a = λ x r b. leads i j x q r a b

  pub trail_more : (q : PairId) (rest : List PairId) (i : ℕ) (w : Waiting) → IsTrail g order listed q rest i → IsBlocked g order listed w.robot w.pair i → IsTrail g order listed q (rest ++ w.pair ∷ []) w.robot
  trail_more q rest i w t a = λ x r b. chain_push (λ (c d : PairId). LeadsTo g order c.0 d.0) q rest w.pair r (t w.robot w.pair a) (leads w.robot i x w.pair r a b)

  -- where the trail comes to the robot for which its first pair waits, it is a cycle
  pub trail_closes : (q : PairId) (rest : List PairId) (i j : ℕ) → IsTrail g order listed q rest j → IsBlocked g order listed i q j → IsCycle g order (q ∷ rest)
  trail_closes q rest i j t a = t i q a

  -- the pairs of the robots back to the one that is waited for are a cycle
  pub cycle_of : (q : PairId) (j k : ℕ) → IsBlocked g order listed k q j → (ws : List Waiting) (i : ℕ) (rest : List PairId) → IsTrail g order listed q rest i → Waits g order listed ws i → Contains (robots_of ws) j
      → (cycle : List PairId) × IsCycle g order cycle
  cycle_of q j k a [] i rest t w h = absurd (in_none j h)
  cycle_of q j k a (w ∷ ws) i rest t s h =
      go (cases_eq w.robot j) (in_cons w.robot (robots_of ws) j h) (λ m. cycle_of q j k a ws w.robot (rest ++ w.pair ∷ []) (trail_more q rest i w t s.0) s.1 m)
    where
      go : (w.robot ≡ j) ⊎ (w.robot ≡ j → ⊥) → (w.robot ≡ j) ⊎ Contains (robots_of ws) j → (Contains (robots_of ws) j → (cycle : List PairId) × IsCycle g order cycle) → (cycle : List PairId) × IsCycle g order cycle
      go (inl e) o later = (q ∷ rest ++ w.pair ∷ [], trail_closes q (rest ++ w.pair ∷ []) k j (subst (λ (m : ℕ). IsTrail g order listed q (rest ++ w.pair ∷ []) m) e (trail_more q rest i w t s.0)) a)
      go (inr ne) (inl e) later = absurd (ne e)
      go (inr ne) (inr m) later = later m

  -- no robot waits for itself
  pub blocked_differs : IsGraph g → (i j : ℕ) (q : PairId) → IsBlocked g order listed i q j → i ≡ j → ⊥
  blocked_differs graph i j q a same =
      let tail : (first_visit a.edge.pair a.edge.side).robot ≡ j = ap (λ (v : Visit). v.robot) (sym a.edge.tail) ∙ a.robot in
      let head : (second_visit a.edge.pair a.edge.side).robot ≡ i = ap (λ (v : Visit). v.robot) (sym a.edge.head) in
      go a.edge.side tail head
    where
      go : (side : Side) → (first_visit a.edge.pair side).robot ≡ j → (second_visit a.edge.pair side).robot ≡ i → ⊥
      go Lower tail head = omega (arith, graph.robots q.0 a.edge.pair a.edge.listed)
      go Higher tail head = omega (arith, graph.robots q.0 a.edge.pair a.edge.listed)

  -- the robot that is waited for has a next visit
  pub awaited_there : (i j : ℕ) (q : PairId) → IsBlocked g order listed i q j → (j < length g.lasts) × (get_or listed j 0 ≤ last_in g j)
  awaited_there i j q a =
      let r : j < length g.lasts = omega (arith, a.there.robot, a.robot) in
      let k : a.tail.index ≤ last_in g j = subst (λ (m : ℕ). a.tail.index ≤ last_in g m) a.robot a.there.index in
      (r, omega (arith, a.unlisted))

  -- so has the robot at work, as it is waited for or is the one that began
  pub working_there : (ws : List Waiting) (i : ℕ) → Waits g order listed ws i → bottom ws i < length g.lasts → get_or listed (bottom ws i) 0 ≤ last_in g (bottom ws i) → (i < length g.lasts) × (get_or listed i 0 ≤ last_in g i)
  working_there [] i s h k = (h, k)
  working_there (w ∷ ws) i s h k = awaited_there w.robot i w.pair s.0

  -- each of them is there
  pub waiting_there : (ws : List Waiting) (i : ℕ) → Waits g order listed ws i → (x : ℕ) → Contains (robots_of ws) x → x < length g.lasts
  waiting_there [] i s x h = absurd (in_none x h)
  waiting_there (w ∷ ws) i s x h = go (in_cons w.robot (robots_of ws) x h) (waiting_there ws w.robot s.1 x)
    where
      go : (w.robot ≡ x) ⊎ Contains (robots_of ws) x → (Contains (robots_of ws) x → x < length g.lasts) → x < length g.lasts
      go (inl e) later = omega (arith, s.0.here.robot, e)
      go (inr m) later = later m

  -- fewer wait than there are robots
  pub few_wait : (ws : List Waiting) (i : ℕ) → Waits g order listed ws i → i < length g.lasts → AllDifferent (i ∷ robots_of ws) → length ws < length g.lasts
  few_wait ws i s h d =
      omega (arith, length-robots_of ws, few_below (length g.lasts) (i ∷ robots_of ws) (distinct_from (i ∷ robots_of ws) d) (λ x m. there x (in_cons i (robots_of ws) x m)))
    where
      there : (x : ℕ) → (i ≡ x) ⊎ Contains (robots_of ws) x → x < length g.lasts
      there x (inl e) = omega (arith, h, e)
      there x (inr m) = waiting_there ws i s x m
