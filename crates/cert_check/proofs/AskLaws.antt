-- What is asked of a visit, edge by edge.
use Rattle.std.proofs.Common.{ℕ, suc, zero, ◌≡◌, ◌+◌, ◌<◌, ◌≤◌, ◌⊎◌, max, Some, None, Option, refl, ap, inl, inr, arith, length}
use Rattle.std.specs.Prelude.{slice_get}
use Rattle.std.proofs.lemmas.Bool.{cases_lt, cases_eq}
use Rattle.fleet_base.specs.declared.geometry.Visit.{Visit}
use Rattle.fleet_base.specs.declared.order.PairId.{PairId}
use Rattle.fleet_base.specs.declared.order.Side.{Side}
use Rattle.fleet_base.specs.Pairs.{numbers_of}
use Rattle.fleet_base.specs.Order.{Graph, HasEdge}
use Rattle.fleet_base.specs.State.{FleetState, arrived_count, duration_of}
use Rattle.plan_graph.proofs.Numbers.{not_numbered}
use Rattle.fleet_base.specs.declared.order.Edge.{Edge}
use Rattle.fleet_base.specs.Paths.{edge_in}
use Rattle.cert_check.specs.Rounds.{along_bound, edge_bound, pair_bound, asked, raised}
use Rattle.fleet_base.proofs.Walking.{edge_has}
use Rattle.fleet_base.specs.Schedule.{own_tick}
use Rattle.cert_check.proofs.Least.{pair_within, raised_ahead, edge_asked}
use Rattle.std.proofs.lemmas.Option.{slice_get_within}

module _ (g : Graph) (x : FleetState) (order : ℕ → Option Side) (f : Visit → ℕ) (v : Visit) where
  -- the first n pairs of the visit have asked
  pub record HasAsked (n tick : ℕ) : Type 0 where
    pub least : own_tick x v ≤ tick
    pub along : along_bound x f v v.index ≤ tick
    pub pairs : (k : ℕ) (q : PairId) → k < n → slice_get (numbers_of g.pairs v) k ≡ Some q → edge_bound x f v (edge_in g order q.0) ≤ tick
    pub no_more : tick ≤ asked g x order f v

  -- no pair asks for more than all do
  one_of : (n q : ℕ) → q < n → edge_bound x f v (edge_in g order q) ≤ pair_bound g x order f v n
  one_of zero q lt = absurd (omega (arith, lt))
  one_of (suc n) q lt = go (cases_eq q n) (λ h. one_of n q h)
    where
      go : (q ≡ n) ⊎ (q ≡ n → ⊥) → (q < n → edge_bound x f v (edge_in g order q) ≤ pair_bound g x order f v n) → edge_bound x f v (edge_in g order q) ≤ pair_bound g x order f v (suc n)
      go (inl e) rest = omega (arith, ap (λ m. edge_bound x f v (edge_in g order m)) e)
      go (inr m) rest = omega (arith, rest (omega (arith, lt, m)))

  beyond : (n q : ℕ) → length g.pairs ≤ q → edge_bound x f v (edge_in g order q) ≤ 0
  beyond n q h = go (edge_in g order q) refl
    where
      go : (o : Option Edge) → edge_in g order q ≡ o → edge_bound x f v o ≤ 0
      go None e = omega arith
      go (Some e) is = let k = edge_has g order q e is in absurd (omega (arith, h, slice_get_within g.pairs q k.pair k.listed))

  no_more_than_all : (q : ℕ) → edge_bound x f v (edge_in g order q) ≤ pair_bound g x order f v (length g.pairs)
  no_more_than_all q = go (cases_lt q (length g.pairs))
    where
      go : (q < length g.pairs) ⊎ (length g.pairs ≤ q) → edge_bound x f v (edge_in g order q) ≤ pair_bound g x order f v (length g.pairs)
      go (inl lt) = one_of (length g.pairs) q lt
      go (inr ge) = omega (arith, beyond 0 q ge)

  pub asked_start : (tick : ℕ) → tick ≡ max (own_tick x v) (along_bound x f v v.index) → HasAsked 0 tick
  asked_start tick e = record { least = omega (arith, e); along = omega (arith, e); pairs = λ k q lt s. absurd (omega (arith, lt)); no_more = omega (arith, e) }

  pub asked_more : (n tick later bound : ℕ) (q : PairId) → HasAsked n tick → slice_get (numbers_of g.pairs v) n ≡ Some q → bound ≡ edge_bound x f v (edge_in g order q.0) → later ≡ max tick bound → HasAsked (n + 1) later
  asked_more n tick later bound q h is b e = record {
    least = omega (arith, e, h.least);
    along = omega (arith, e, h.along);
    pairs = λ k r lt s. go k r lt s (cases_eq k n);
    no_more = omega (arith, e, b, h.no_more, no_more_than_all q.0);
  }
    where
      go : (k : ℕ) (r : PairId) → k < n + 1 → slice_get (numbers_of g.pairs v) k ≡ Some r → (k ≡ n) ⊎ (k ≡ n → ⊥) → edge_bound x f v (edge_in g order r.0) ≤ later
      go k r lt s (inl same) =
          let t : slice_get (numbers_of g.pairs v) k ≡ slice_get (numbers_of g.pairs v) n = ap (slice_get (numbers_of g.pairs v)) same in
          let u : r ≡ q = cc in
          omega (arith, e, b, ap (λ (p : PairId). edge_bound x f v (edge_in g order p.0)) u)
      go k r lt s (inr ne) = omega (arith, e, h.pairs k r (omega (arith, lt, ne)) s)

  pub asked_all : (n tick : ℕ) → HasAsked n tick → length (numbers_of g.pairs v) ≤ n → arrived_count x v.robot ≤ v.index → tick ≡ raised g x order f v
  asked_all n tick h all ahead =
      let most : pair_bound g x order f v (length g.pairs) ≤ tick = pair_within g x order f v tick (length g.pairs) each in
      omega (arith, h.least, h.along, h.no_more, most, raised_ahead g x order f v ahead)
    where
      each : (q : ℕ) (u : Visit) → HasEdge g order q u v → f u + duration_of x v ≤ tick
      each q u e = go (cases_lt tick (f u + duration_of x v))
        where
          go : (tick < f u + duration_of x v) ⊎ (f u + duration_of x v ≤ tick) → f u + duration_of x v ≤ tick
          go (inr le) = le
          go (inl lt) = absurd (not_numbered g order u v n all (λ k r i s d. omega (arith, lt, h.pairs k r i s, asks r.0 d)) q e)
            where
              asks : (r : ℕ) → HasEdge g order r u v → f u + duration_of x v ≤ edge_bound x f v (edge_in g order r)
              asks r d = edge_asked g x order f v u r d

pub ahead_of : (n k : ℕ) → (k < n → ⊥) → n ≤ k
ahead_of n k h = go (cases_lt k n)
  where
    go : (k < n) ⊎ (n ≤ k) → n ≤ k
    go (inl lt) = absurd (h lt)
    go (inr le) = le
