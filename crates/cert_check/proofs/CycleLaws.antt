-- A cycle, followed edge by edge.
use Rattle.std.proofs.Common.{ℕ, ◌≡◌, ◌+◌, ◌<◌, ◌≤◌, List, [], ◌∷◌, Some, None, Option, true, false, refl, sym, ap, ◌∙◌, subst, arith, length, drop, get_or}
use Rattle.std.proofs.lemmas.List.{drop_more, drop_all}
use Rattle.fleet_base.specs.declared.geometry.Visit.{Visit}
use Rattle.fleet_base.specs.declared.order.PairId.{PairId}
use Rattle.fleet_base.specs.declared.order.Side.{Side}
use Rattle.fleet_base.specs.Lists.{Chain, Ring}
use Rattle.fleet_base.specs.Order.{Graph, LeadsTo, IsCycle}
use Rattle.fleet_base.specs.declared.order.Edge.{Edge}
use Rattle.fleet_base.specs.Paths.{edge_in, leads_on}
use Rattle.fleet_base.proofs.Walking.{edge_is, edge_has, can_go, goes}
use Rattle.fleet_base.proofs.Edges.{edge_unique}

abbrev pub none : PairId
none = record { 0 = 0 }

module _ (g : Graph) (order : ℕ → Option Side) where
  abbrev Leads : PairId → PairId → Type 0
  Leads q r = LeadsTo g order q.0 r.0

  leads_to : (q r : ℕ) (e f : Edge) → edge_in g order q ≡ Some e → edge_in g order r ≡ Some f → f.tail.robot < length g.lasts → leads_on g e.head f.tail ≡ true → LeadsTo g order q r
  leads_to q r e f a b there t =
      let c = can_go g e.head f.tail t in
      record { tail = e.tail; head = e.head; edge = edge_has g order q e a; next_tail = f.tail; next_head = f.head; next_edge = edge_has g order r f b; there = record { robot = there; index = c.within }; robot = c.robot; onward = c.onward }

  leads_back : (q r : ℕ) (e f : Edge) → edge_in g order q ≡ Some e → edge_in g order r ≡ Some f → LeadsTo g order q r → leads_on g e.head f.tail ≡ true
  leads_back q r e f a b l =
      let u = edge_unique g order q l.tail l.head e.tail e.head l.edge (edge_has g order q e a) in
      let v = edge_unique g order r l.next_tail l.next_head f.tail f.head l.next_edge (edge_has g order r f b) in
      let test = goes g l.head l.next_tail (record { robot = l.robot; onward = l.onward; within = l.there.index }) in
      ap (λ (w : Visit). leads_on g w f.tail) (sym u.1) ∙ ap (λ (w : Visit). leads_on g l.head w) (sym v.0) ∙ test

  no_edge : (q : ℕ) → edge_in g order q ≡ None → (r : ℕ) → LeadsTo g order r q → ⊥
  no_edge q e r l = let k = edge_is g order q l.next_tail l.next_head l.next_edge in cc

  pub no_first_edge : (q : ℕ) → edge_in g order q ≡ None → (r : ℕ) → LeadsTo g order q r → ⊥
  no_first_edge q e r l = let k = edge_is g order q l.tail l.head l.edge in cc

  module _ (cycle : List PairId) where
    abbrev at : ℕ → PairId
    at k = get_or cycle k none

    -- the pairs up to a place lead on to the last edge, so the rest decides
    pub record Goes (place : ℕ) (last : Edge) : Type 0 where
      pub prior : ℕ
      pub next : prior + 1 ≡ place
      pub edge : edge_in g order (at prior).0 ≡ Some last
      pub to : Chain Leads (at prior) (drop place cycle) (at 0) → IsCycle g order cycle
      pub from : IsCycle g order cycle → Chain Leads (at prior) (drop place cycle) (at 0)

    pub start : (first : Edge) → edge_in g order (at 0).0 ≡ Some first → 0 < length cycle → Goes 1 first
    start first e some = go cycle refl some
      where
        go : (xs : List PairId) → cycle ≡ xs → 0 < length xs → Goes 1 first
        go [] s h = absurd (omega (arith, h))
        go (x ∷ xs) s h =
            let same : Chain Leads (get_or (x ∷ xs) 0 none) (drop 1 (x ∷ xs)) (get_or (x ∷ xs) 0 none) ≡ Ring Leads (x ∷ xs) = refl in
            record {
              prior = 0;
              next = refl;
              edge = e;
              to = subst (λ (ys : List PairId). Chain Leads (get_or ys 0 none) (drop 1 ys) (get_or ys 0 none) → Ring Leads ys) (sym s) (λ c. c);
              from = subst (λ (ys : List PairId). Ring Leads ys → Chain Leads (get_or ys 0 none) (drop 1 ys) (get_or ys 0 none)) (sym s) (λ c. c);
            }

    split : (place : ℕ) → place < length cycle → drop place cycle ≡ at place ∷ drop (place + 1) cycle
    split place h = drop_more cycle place none h

    pub step : (place : ℕ) (last next : Edge) → Goes place last → place < length cycle → edge_in g order (at place).0 ≡ Some next → next.tail.robot < length g.lasts → leads_on g last.head next.tail ≡ true → Goes (place + 1) next
    step place last next goes h e there t =
        let l = leads_to (at goes.prior).0 (at place).0 last next goes.edge e there t in
        record {
          prior = place;
          next = refl;
          edge = e;
          to = λ c. goes.to (subst (λ (ys : List PairId). Chain Leads (at goes.prior) ys (at 0)) (sym (split place h)) (l, c));
          from = λ c. (subst (λ (ys : List PairId). Chain Leads (at goes.prior) ys (at 0)) (split place h) (goes.from c)).1;
        }

    pub breaks_edge : (place : ℕ) (last : Edge) → Goes place last → place < length cycle → edge_in g order (at place).0 ≡ None → IsCycle g order cycle → ⊥
    breaks_edge place last goes h e c = no_edge (at place).0 e (at goes.prior).0 (subst (λ (ys : List PairId). Chain Leads (at goes.prior) ys (at 0)) (split place h) (goes.from c)).0

    pub breaks_leads : (place : ℕ) (last next : Edge) → Goes place last → place < length cycle → edge_in g order (at place).0 ≡ Some next → leads_on g last.head next.tail ≡ false → IsCycle g order cycle → ⊥
    breaks_leads place last next goes h e f c =
        let l = leads_back (at goes.prior).0 (at place).0 last next goes.edge e (subst (λ (ys : List PairId). Chain Leads (at goes.prior) ys (at 0)) (split place h) (goes.from c)).0 in
        cc

    pub closes : (place : ℕ) (last first : Edge) → Goes place last → length cycle ≤ place → edge_in g order (at 0).0 ≡ Some first → first.tail.robot < length g.lasts → (leads_on g last.head first.tail ≡ true → IsCycle g order cycle) × (IsCycle g order cycle → leads_on g last.head first.tail ≡ true)
    closes place last first goes h e there =
        let all : drop place cycle ≡ [] = drop_all place cycle h in (
          λ t. goes.to (subst (λ (ys : List PairId). Chain Leads (at goes.prior) ys (at 0)) (sym all) (leads_to (at goes.prior).0 (at 0).0 last first goes.edge e there t)),
          λ c. leads_back (at goes.prior).0 (at 0).0 last first goes.edge e (subst (λ (ys : List PairId). Chain Leads (at goes.prior) ys (at 0)) all (goes.from c)),
        )

    -- a first pair without an edge
    pub no_start : edge_in g order (at 0).0 ≡ None → IsCycle g order cycle → ⊥
    no_start e c = go cycle e c
      where
        first : (xs : List PairId) (x : PairId) (z : PairId) → Chain Leads x xs z → edge_in g order x.0 ≡ None → ⊥
        first [] x z k e = no_first_edge x.0 e z.0 k
        first (y ∷ ys) x z k e = no_first_edge x.0 e y.0 k.0

        go : (xs : List PairId) → edge_in g order (get_or xs 0 none).0 ≡ None → Ring Leads xs → ⊥
        go [] e k = k
        go (x ∷ xs) e k = first xs x x k e
