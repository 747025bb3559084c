-- Part decisions: a further decision costs no less, a candidate is one, and one of a part decision without conflict costs as little.
use Rattle.std.proofs.Common.{ℕ, suc, zero, ◌≡◌, ◌+◌, ◌<◌, ◌≤◌, ◌⊎◌, List, ◌∷◌, Some, None, Option, true, false, Bool, cond, refl, sym, ap, ◌∙◌, subst, inl, inr, arith, length, eqb}
use Rattle.std.specs.Prelude.{slice_get, IsSome}
use Rattle.std.proofs.lemmas.Bool.{eqb-true, cases_lt, cases_eq}
use Rattle.std.proofs.lemmas.Option.{slice_get_within}
use Rattle.fleet_base.specs.declared.geometry.Visit.{Visit}
use Rattle.fleet_base.specs.declared.order.Pair.{Pair}
use Rattle.fleet_base.specs.declared.order.Side.{Side}
use Rattle.fleet_base.specs.declared.order.Side.TheVariants.{Lower, Higher}
use Rattle.fleet_base.specs.Order.{Graph, IsVisit, IsSoundOrder, order_of, next_visit, first_visit, second_visit, other_side}
use Rattle.fleet_base.specs.State.{FleetState, arrived_count, duration_of}
use Rattle.fleet_base.specs.Open.{is_open}
use Rattle.fleet_base.specs.Rules.{IsFleetState}
use Rattle.fleet_base.specs.Schedule.{Obeys, ObeysEdge, ObeysSide, IsLeastSchedule, IsCost, end_sum_of}
use Rattle.fleet_base.proofs.Costs.{sum_le}
use Rattle.fleet_base.proofs.Edges.{head_there}
use Rattle.fleet_base.proofs.OpenPairs.{open_listed}
use Rattle.cert_tree.specs.Decisions.{Decision, side_on, order_on, IsFree}
use Rattle.cert_tree.specs.Orders.{ObeysPairs}
use Rattle.cert_tree.proofs.EdgeLaws.{visit_before}
use Rattle.cert_tree.proofs.Lawful.{listed}
use Rattle.cert_tree.proofs.SoundOrders.{acyclic_is_sound}
use Rattle.cert_tree.proofs.Walks.{tail_there}
use Rattle.longest_path.specs.Extending.{Extends}
use Rattle.longest_path.proofs.Extending.{obeys_fewer}
use Rattle.order_choice.specs.Candidates.{IsSuggested, IsCandidate, IsNoCheaper, IsInConflict}
use Rattle.order_choice.specs.Candidates.IsSuggested.{obeys_old, obeys_other, obeys_neither}

-- a further decision keeps the others
pub one_extends : (g : Graph) (x : FleetState) (way : List Decision) (d : Decision) → IsFree g x way d.pair → Extends (order_on g x way) (order_on g x (d ∷ way))
one_extends g x way d free q side e = go (is_open g x q) (eqb d.pair q) refl e
  where
    go : (a b : Bool) → eqb d.pair q ≡ b → cond a (side_on way q) (order_of x.sides q) ≡ Some side → cond a (cond b (Some d.side) (side_on way q)) (order_of x.sides q) ≡ Some side
    go false b t k = k
    go true false t k = k
    go true true t k = let same : side_on way d.pair ≡ side_on way q = ap (side_on way) (eqb-true d.pair q t) in let none = free.1 in cc

-- so a child costs at least its parent
pub costs_no_less : (g : Graph) (x : FleetState) (way : List Decision) (d : Decision) (c c' : ℕ) → IsFree g x way d.pair → IsCost g x (order_on g x way) c → IsCost g x (order_on g x (d ∷ way)) c' → c ≤ c'
costs_no_less g x way d c c' free k k' =
    let h = k.least k'.best k'.schedule (obeys_fewer g (order_on g x way) (order_on g x (d ∷ way)) (one_extends g x way d free) x k'.best k'.obeys) in
    omega (arith, h, k'.sum)

-- ---- whether a schedule obeys an edge

pub obeys_or_not : (x : FleetState) (s : Visit → ℕ) (u v : Visit) → ObeysEdge x s u v ⊎ (ObeysEdge x s u v → ⊥)
obeys_or_not x s u v = go (cases_lt v.index (arrived_count x v.robot)) (cases_lt (s v) (s u + duration_of x v))
  where
    neither : arrived_count x v.robot ≤ v.index → s v < s u + duration_of x v → ObeysEdge x s u v → ⊥
    neither a b (inl h) = omega (arith, a, h)
    neither a b (inr h) = omega (arith, b, h)

    go : (v.index < arrived_count x v.robot) ⊎ (arrived_count x v.robot ≤ v.index) → (s v < s u + duration_of x v) ⊎ (s u + duration_of x v ≤ s v) → ObeysEdge x s u v ⊎ (ObeysEdge x s u v → ⊥)
    go (inl a) o = inl (inl a)
    go (inr a) (inr b) = inl (inr b)
    go (inr a) (inl b) = inr (neither a b)

pub side_or_not : (x : FleetState) (s : Visit → ℕ) (pair : Pair) (side : Side) → ObeysSide x s pair side ⊎ (ObeysSide x s pair side → ⊥)
side_or_not x s pair side = obeys_or_not x s (next_visit (first_visit pair side)) (second_visit pair side)

-- ---- the suggested side

-- there is one
pub suggest : (x : FleetState) (s : Visit → ℕ) (pair : Pair) (old : Side) → (side : Side) × IsSuggested x s pair old side
suggest x s pair old = go (side_or_not x s pair old) (side_or_not x s pair (other_side old))
  where
    go : ObeysSide x s pair old ⊎ (ObeysSide x s pair old → ⊥) → ObeysSide x s pair (other_side old) ⊎ (ObeysSide x s pair (other_side old) → ⊥) → (side : Side) × IsSuggested x s pair old side
    go (inl h) o = (old, obeys_old h)
    go (inr n) (inl h) = (other_side old, obeys_other n h)
    go (inr n) (inr m) = (old, obeys_neither n m)

-- and no other
pub suggested_once : (x : FleetState) (s : Visit → ℕ) (pair : Pair) (old a b : Side) → IsSuggested x s pair old a → IsSuggested x s pair old b → a ≡ b
suggested_once x s pair old _ _ (obeys_old h) (obeys_old k) = refl
suggested_once x s pair old _ _ (obeys_old h) (obeys_other n k) = absurd (n h)
suggested_once x s pair old _ _ (obeys_old h) (obeys_neither n m) = refl
suggested_once x s pair old _ _ (obeys_other n h) (obeys_old k) = absurd (n k)
suggested_once x s pair old _ _ (obeys_other n h) (obeys_other m k) = refl
suggested_once x s pair old _ _ (obeys_other n h) (obeys_neither m k) = absurd (k h)
suggested_once x s pair old _ _ (obeys_neither n m) (obeys_old k) = refl
suggested_once x s pair old _ _ (obeys_neither n m) (obeys_other l k) = absurd (m k)
suggested_once x s pair old _ _ (obeys_neither n m) (obeys_neither k l) = refl

-- the schedule obeys it, if it obeys either
pub suggestion : (x : FleetState) (s : Visit → ℕ) (pair : Pair) (old side : Side) → IsSuggested x s pair old side → ObeysSide x s pair Lower ⊎ ObeysSide x s pair Higher → ObeysSide x s pair side
suggestion x s pair old _ (obeys_old h) o = h
suggestion x s pair old _ (obeys_other n h) o = h
suggestion x s pair Lower _ (obeys_neither n m) (inl h) = absurd (n h)
suggestion x s pair Lower _ (obeys_neither n m) (inr h) = absurd (m h)
suggestion x s pair Higher _ (obeys_neither n m) (inl h) = absurd (m h)
suggestion x s pair Higher _ (obeys_neither n m) (inr h) = absurd (n h)

-- ---- the candidate of a part decision

module _ (g : Graph) (x : FleetState) (way : List Decision) (s : Visit → ℕ) where
  abbrev pub for_free : Option Pair → Option Side → Option Side
  for_free None o = None
  for_free (Some pair) None = None
  for_free (Some pair) (Some old) = Some (suggest x s pair old).0

  abbrev pub pick : Bool → Option Side → Option Pair → Option Side → Option Side
  pick false d p o = o
  pick true None p o = for_free p o
  pick true (Some d) p o = Some d

  abbrev pub candidate : ℕ → Option Side
  candidate q = pick (is_open g x q) (side_on way q) (slice_get g.pairs q) (order_of x.sides q)

  -- there is one
  pub candidate_is : IsCandidate g x way s candidate
  candidate_is = record {
    closed = λ q c. ap (λ b. pick b (side_on way q) (slice_get g.pairs q) (order_of x.sides q)) c;
    decided = λ q side o d. ap (λ b. pick b (side_on way q) (slice_get g.pairs q) (order_of x.sides q)) o ∙ ap (λ z. pick true z (slice_get g.pairs q) (order_of x.sides q)) d;
    undecided = λ q pair old free l o. (
      (suggest x s pair old).0,
      ap (λ b. pick b (side_on way q) (slice_get g.pairs q) (order_of x.sides q)) free.0 ∙ ap (λ z. pick true z (slice_get g.pairs q) (order_of x.sides q)) free.1 ∙ ap (λ z. for_free z (order_of x.sides q)) l ∙ ap (λ z. for_free (Some pair) z) o,
      (suggest x s pair old).1,
    );
  }

module _ (g : Graph) (x : FleetState) (way : List Decision) (state : IsFleetState g x) where
  -- an open pair has a side in the state
  pub old_side : (q : ℕ) → is_open g x q ≡ true → (old : Side) × (order_of x.sides q ≡ Some old)
  old_side q o = go (order_of x.sides q) refl (state.order.total q (let l = open_listed g x q o in slice_get_within g.pairs q l.0 l.1))
    where
      go : (z : Option Side) → order_of x.sides q ≡ z → IsSome (order_of x.sides q) → (old : Side) × (order_of x.sides q ≡ Some old)
      go None e h = let k = subst (λ (z : Option Side). IsSome z) e h in cc
      go (Some old) e h = (old, e)

  -- two candidates with schedules that obey the same edges of open pairs agree
  pub one_candidate : (s t : Visit → ℕ) (a b : ℕ → Option Side) → ((q : ℕ) (pair : Pair) (old side : Side) → IsFree g x way q → slice_get g.pairs q ≡ Some pair → IsSuggested x s pair old side → IsSuggested x t pair old side)
      → IsCandidate g x way s a → IsCandidate g x way t b → (q : ℕ) → a q ≡ b q
  one_candidate s t a b same ca cb q = go (is_open g x q) (side_on way q) refl refl
    where
      go : (c : Bool) (d : Option Side) → is_open g x q ≡ c → side_on way q ≡ d → a q ≡ b q
      go false d o e = ca.closed q o ∙ sym (cb.closed q o)
      go true (Some d) o e = ca.decided q d o e ∙ sym (cb.decided q d o e)
      go true None o e =
          let l = open_listed g x q o in
          let old = old_side q o in
          let m = ca.undecided q l.0 old.0 (o, e) l.1 old.1 in
          let n = cb.undecided q l.0 old.0 (o, e) l.1 old.1 in
          let z = suggested_once x t l.0 old.0 m.0 n.0 (same q l.0 old.0 m.0 (o, e) l.1 m.2) n.2 in
          m.1 ∙ ap Some z ∙ sym n.1

module _ (g : Graph) (x : FleetState) (way : List Decision) (s : Visit → ℕ) (order : ℕ → Option Side) (state : IsFleetState g x) (least : IsLeastSchedule g x (order_on g x way) s) (is : IsCandidate g x way s order)
    (calm : (q : ℕ) (pair : Pair) → IsFree g x way q → slice_get g.pairs q ≡ Some pair → ObeysSide x s pair Lower ⊎ ObeysSide x s pair Higher) where
  -- the candidate keeps the decisions
  extends : Extends (order_on g x way) order
  extends q side e = go (is_open g x q) (side_on way q) refl refl e
    where
      go : (b : Bool) (o : Option Side) → is_open g x q ≡ b → side_on way q ≡ o → cond b o (order_of x.sides q) ≡ Some side → order q ≡ Some side
      go false o a f k = is.closed q a ∙ k
      go true None a f k = cc
      go true (Some d) a f k = is.decided q side a (f ∙ k)

  -- the schedule obeys its edges
  obeys_pairs : ObeysPairs g x order s
  obeys_pairs q u v e = go (is_open g x q) (side_on way q) refl refl
    where
      by_way : order_on g x way q ≡ Some e.side → ObeysEdge x s u v
      by_way k = least.obeys u v (tail_there g x state order is.closed q u v e) (head_there g order q u v state.fleet.graph e) (inr (q, record { pair = e.pair; side = e.side; listed = e.listed; sided = k; tail = e.tail; head = e.head }))

      free_side : IsFree g x way q → ObeysEdge x s u v
      free_side free =
          let old = old_side g x way state q free.0 in
          let m = is.undecided q e.pair old.0 free e.listed old.1 in
          let same : m.0 ≡ e.side = let a = m.1 in let b = e.sided in cc in
          let h = suggestion x s e.pair old.0 m.0 m.2 (calm q e.pair free e.listed) in
          let h' = subst (λ (d : Side). ObeysSide x s e.pair d) same h in
          subst (λ (w : Visit). ObeysEdge x s w v) (sym e.tail) (subst (λ (w : Visit). ObeysEdge x s (next_visit (first_visit e.pair e.side)) w) (sym e.head) h')

      go : (b : Bool) (o : Option Side) → is_open g x q ≡ b → side_on way q ≡ o → ObeysEdge x s u v
      go false o a f = by_way (ap (λ c. cond c (side_on way q) (order_of x.sides q)) a ∙ sym (is.closed q a) ∙ e.sided)
      go true None a f = free_side (a, f)
      go true (Some d) a f = by_way (ap (λ c. cond c (side_on way q) (order_of x.sides q)) a ∙ f ∙ sym (is.decided q d a f) ∙ e.sided)

  sided : (q : ℕ) → is_open g x q ≡ true → IsSome (order q)
  sided q a = go (side_on way q) refl
    where
      go : (o : Option Side) → side_on way q ≡ o → IsSome (order q)
      go (Some d) f = subst (λ (z : Option Side). IsSome z) (sym (is.decided q d a f)) refl
      go None f =
          let l = open_listed g x q a in
          let old = old_side g x way state q a in
          subst (λ (z : Option Side). IsSome z) (sym (is.undecided q l.0 old.0 (a, f) l.1 old.1).1) refl

  goes : (v : Visit) → IsVisit g (next_visit v) → ObeysEdge x s v (next_visit v)
  goes v there = least.obeys v (next_visit v) (visit_before g v.robot (v.index + 1) v.index there (omega arith)) there (inl refl)

  obeys_all : Obeys g x order s
  obeys_all u v iu iv (inl e) = least.obeys u v iu iv (inl e)
  obeys_all u v iu iv (inr (q, e)) = obeys_pairs q u v e

  -- it is sound and costs as little as the part decision
  pub candidate_is_best : IsSoundOrder g order × IsCost g x order (end_sum_of g s)
  candidate_is_best = (
    (let l = listed g x state order is.closed s goes obeys_pairs in acyclic_is_sound g x order l.0 state is.closed sided l.1),
    record {
      best = s;
      schedule = least.schedule;
      obeys = obeys_all;
      sum = refl;
      least = λ t schedule o. sum_le g s t (least.least t schedule (obeys_fewer g (order_on g x way) order extends x t o));
    },
  )

-- ---- a pair in conflict, or none

-- each free pair below a number has an edge that the schedule obeys
abbrev pub IsCalm : Graph → FleetState → List Decision → (Visit → ℕ) → ℕ → Type 0
IsCalm g x way s n = (q : ℕ) (pair : Pair) → q < n → IsFree g x way q → slice_get g.pairs q ≡ Some pair → ObeysSide x s pair Lower ⊎ ObeysSide x s pair Higher

-- one pair is in conflict, or has an edge that the schedule obeys, or is not free
pub conflict_at : (g : Graph) (x : FleetState) (way : List Decision) (s : Visit → ℕ) (q : ℕ) → IsInConflict g x way s q ⊎ ((pair : Pair) → IsFree g x way q → slice_get g.pairs q ≡ Some pair → ObeysSide x s pair Lower ⊎ ObeysSide x s pair Higher)
conflict_at g x way s q = go (is_open g x q) (side_on way q) refl refl
  where
    both : (pair : Pair) → (ObeysSide x s pair Lower → ⊥) → (ObeysSide x s pair Higher → ⊥) → (other : Pair) (side : Side) → other ≡ pair → ObeysSide x s other side → ⊥
    both pair n m other Lower e h = n (subst (λ (p : Pair). ObeysSide x s p Lower) e h)
    both pair n m other Higher e h = m (subst (λ (p : Pair). ObeysSide x s p Higher) e h)

    of_pair : IsFree g x way q → (pair : Pair) → slice_get g.pairs q ≡ Some pair → ObeysSide x s pair Lower ⊎ (ObeysSide x s pair Lower → ⊥) → ObeysSide x s pair Higher ⊎ (ObeysSide x s pair Higher → ⊥)
        → IsInConflict g x way s q ⊎ ((p : Pair) → IsFree g x way q → slice_get g.pairs q ≡ Some p → ObeysSide x s p Lower ⊎ ObeysSide x s p Higher)
    of_pair free pair l (inl h) o = inr (λ p f m. inl (subst (λ (z : Pair). ObeysSide x s z Lower) (let e : pair ≡ p = cc in e) h))
    of_pair free pair l (inr n) (inl h) = inr (λ p f m. inr (subst (λ (z : Pair). ObeysSide x s z Higher) (let e : pair ≡ p = cc in e) h))
    of_pair free pair l (inr n) (inr m) = inl (record { free = free; neither = λ p side k. both pair n m p side (let e : p ≡ pair = cc in e) })

    go : (b : Bool) (o : Option Side) → is_open g x q ≡ b → side_on way q ≡ o → IsInConflict g x way s q ⊎ ((pair : Pair) → IsFree g x way q → slice_get g.pairs q ≡ Some pair → ObeysSide x s pair Lower ⊎ ObeysSide x s pair Higher)
    go false o a f = inr (λ pair free l. let h = free.0 in cc)
    go true (Some d) a f = inr (λ pair free l. let h = free.1 in cc)
    go true None a f = let l = open_listed g x q a in of_pair (a, f) l.0 l.1 (side_or_not x s l.0 Lower) (side_or_not x s l.0 Higher)

-- a pair in conflict is found among the first so many, or none of them is
pub conflict_or_calm : (g : Graph) (x : FleetState) (way : List Decision) (s : Visit → ℕ) (n : ℕ) → ((q : ℕ) × IsInConflict g x way s q) ⊎ IsCalm g x way s n
conflict_or_calm g x way s zero = inr (λ q pair h. absurd (omega (arith, h)))
conflict_or_calm g x way s (suc n) = go (conflict_or_calm g x way s n) (conflict_at g x way s n)
  where
    go : ((q : ℕ) × IsInConflict g x way s q) ⊎ IsCalm g x way s n → IsInConflict g x way s n ⊎ ((pair : Pair) → IsFree g x way n → slice_get g.pairs n ≡ Some pair → ObeysSide x s pair Lower ⊎ ObeysSide x s pair Higher)
        → ((q : ℕ) × IsInConflict g x way s q) ⊎ IsCalm g x way s (suc n)
    go (inl c) o = inl c
    go (inr calm) (inl c) = inl (n, c)
    go (inr calm) (inr here) = inr each
      where
        at : (q : ℕ) (pair : Pair) → (q ≡ n) ⊎ (q ≡ n → ⊥) → q < suc n → IsFree g x way q → slice_get g.pairs q ≡ Some pair → ObeysSide x s pair Lower ⊎ ObeysSide x s pair Higher
        at q pair (inl e) h free l = here pair (subst (λ (m : ℕ). IsFree g x way m) e free) (subst (λ (m : ℕ). slice_get g.pairs m ≡ Some pair) e l)
        at q pair (inr ne) h free l = calm q pair (omega (arith, h, ne)) free l

        each : IsCalm g x way s (suc n)
        each q pair h free l = at q pair (cases_eq q n) h free l

-- a node has a pair in conflict, or its candidate is sound and costs as little as the node
pub conflict_or_best : (g : Graph) (x : FleetState) (way : List Decision) (s : Visit → ℕ) (order : ℕ → Option Side) → IsFleetState g x → IsLeastSchedule g x (order_on g x way) s → IsCandidate g x way s order
    → ((q : ℕ) × IsInConflict g x way s q) ⊎ (IsSoundOrder g order × IsCost g x order (end_sum_of g s))
conflict_or_best g x way s order state least is = go (conflict_or_calm g x way s (length g.pairs))
  where
    go : ((q : ℕ) × IsInConflict g x way s q) ⊎ IsCalm g x way s (length g.pairs) → ((q : ℕ) × IsInConflict g x way s q) ⊎ (IsSoundOrder g order × IsCost g x order (end_sum_of g s))
    go (inl c) = inl c
    go (inr calm) = inr (candidate_is_best g x way s order state least is (λ q pair free l. calm q pair (slice_get_within g.pairs q pair l) free l))

-- so where its candidate is no cheaper than a cost that it is below, it has one
pub below_has_conflict : (g : Graph) (x : FleetState) (way : List Decision) (s : Visit → ℕ) (cost : ℕ) → IsFleetState g x → IsLeastSchedule g x (order_on g x way) s → IsNoCheaper g x cost way → end_sum_of g s < cost
    → (q : ℕ) × IsInConflict g x way s q
below_has_conflict g x way s cost state least weighed below = go (conflict_or_best g x way s (candidate g x way s) state least (candidate_is g x way s))
  where
    go : ((q : ℕ) × IsInConflict g x way s q) ⊎ (IsSoundOrder g (candidate g x way s) × IsCost g x (candidate g x way s) (end_sum_of g s)) → (q : ℕ) × IsInConflict g x way s q
    go (inl c) = c
    go (inr b) = let h = weighed s (candidate g x way s) (end_sum_of g s) least (candidate_is g x way s) b.0 b.1 in absurd (omega (arith, h, below))
