-- The pairs whose sides in an order are not those of a state, found one after another.
use Rattle.std.proofs.Common.{ℕ, suc, zero, ◌≡◌, ◌≢◌, ◌+◌, ◌<◌, ◌≤◌, ◌⊎◌, List, [], ◌∷◌, ◌++◌, map, length, true, refl, ap, subst, inl, inr, arith}
use Rattle.std.specs.Prelude.{Contains, Bool, false, Option, slice_index}
use Rattle.std.specs.List.Sorted.{IsStrictlyIncreasing}
use Rattle.std.proofs.lemmas.List.Elements.{Contains-append_left, Contains-push, Contains-push_cases}
use Rattle.std.proofs.lemmas.Bool.{cases_lt}
use Rattle.std.proofs.lemmas.List.{length-append}
use Rattle.fleet_base.specs.declared.order.PairId.{PairId}
use Rattle.fleet_base.specs.declared.order.Side.{Side}
use Rattle.fleet_base.specs.Order.{Graph}
use Rattle.fleet_base.specs.State.{FleetState, order_at}
use Rattle.fleet_base.specs.Open.{is_open, KeepsClosed}
use Rattle.fleet_base.proofs.Members.{head_in, in_one, in_none}
use Rattle.edge_groups.proofs.Ascending.{Ascends, ascends_append}
use Rattle.longest_path.proofs.LiveLaws.{open_within}
use Rattle.order_choice.specs.Choices.{AreSwitches}

-- a pair's number
abbrev pub number : PairId → ℕ
number q = q.0

-- numbers that rise from each element to the next
pub ascends_increasing : (qs : List PairId) → Ascends number qs → IsStrictlyIncreasing (map (λ q. q.0) qs)
ascends_increasing [] up k h = absurd (omega (arith, h))
ascends_increasing (p ∷ []) up k h = absurd (omega (arith, h))
ascends_increasing (p ∷ q ∷ qs) up zero h = up.0 q (head_in q qs)
ascends_increasing (p ∷ q ∷ qs) up (suc k) h =
    let e : suc k + 1 ≡ suc (k + 1) = omega arith in
    let z = ap (slice_index (map (λ (r : PairId). r.0) (p ∷ q ∷ qs))) e in
    let u = ascends_increasing (q ∷ qs) up.1 k (omega (arith, h)) in
    omega (arith, u, z)

module _ (g : Graph) (x : FleetState) (order : ℕ → Option Side) where
  -- those among the first so many pairs are found
  pub record AreFound (n : ℕ) (switched : List PairId) : Type 0 where
    pub ascending : Ascends number switched
    pub differ : (q : PairId) → Contains switched q → (q.0 < n) × (order q.0 ≢ order_at g x q.0)
    pub each : (q : PairId) → q.0 < n → order q.0 ≢ order_at g x q.0 → Contains switched q
    pub few : length switched ≤ n

  pub none_found : AreFound 0 []
  none_found = record { ascending = tt; differ = λ q h. absurd (in_none q h); each = λ q h d. absurd (omega (arith, h)); few = omega arith }

  -- a pair with the same side
  pub same_found : (n : ℕ) (switched : List PairId) → AreFound n switched → order n ≡ order_at g x n → AreFound (n + 1) switched
  same_found n switched f same = record {
    ascending = f.ascending;
    differ = λ q h. let d = f.differ q h in (omega (arith, d.0), d.1);
    each = λ q h d. go q d (cases_lt q.0 n) h;
    few = omega (arith, f.few);
  }
    where
      go : (q : PairId) → order q.0 ≢ order_at g x q.0 → (q.0 < n) ⊎ (n ≤ q.0) → q.0 < n + 1 → Contains switched q
      go q d (inl lt) h = f.each q lt d
      go q d (inr le) h = let e : n ≡ q.0 = omega (arith, le, h) in absurd (d (subst (λ (k : ℕ). order k ≡ order_at g x k) e same))

  -- and one with another side
  pub other_found : (q : PairId) (switched : List PairId) → AreFound q.0 switched → order q.0 ≢ order_at g x q.0 → AreFound (q.0 + 1) (switched ++ q ∷ [])
  other_found q switched f other = record {
    ascending = ascends_append number switched (q ∷ []) f.ascending (λ y h. absurd (in_none y h), tt) (λ p r in_front in_last. let e = ap number (in_one q r in_last) in omega (arith, (f.differ p in_front).0, e));
    differ = λ p h. differs p (Contains-push_cases switched q p h);
    each = λ p h d. go p d (cases_lt p.0 q.0) h;
    few = omega (arith, f.few, length-append switched (q ∷ []));
  }
    where
      differs : (p : PairId) → Contains switched p ⊎ (q ≡ p) → (p.0 < q.0 + 1) × (order p.0 ≢ order_at g x p.0)
      differs p (inl h) = let d = f.differ p h in (omega (arith, d.0), d.1)
      differs p (inr e) = subst (λ (r : PairId). (r.0 < q.0 + 1) × (order r.0 ≢ order_at g x r.0)) e (omega arith, other)

      go : (p : PairId) → order p.0 ≢ order_at g x p.0 → (p.0 < q.0) ⊎ (q.0 ≤ p.0) → p.0 < q.0 + 1 → Contains (switched ++ q ∷ []) p
      go p d (inl lt) h = Contains-append_left switched (q ∷ []) p (f.each p lt d)
      go p d (inr le) h = let e : q.0 ≡ p.0 = omega (arith, le, h) in subst (λ (k : ℕ). Contains (switched ++ q ∷ []) (record { 0 = k })) e (Contains-push switched q)

  -- beyond the pairs of the graph no side differs, if closed pairs keep theirs
  pub all_found : (n : ℕ) (switched : List PairId) → n ≡ length g.pairs → KeepsClosed g x order → AreFound n switched → AreSwitches g x order switched
  all_found n switched all keeps f = record {
    ascending = ascends_increasing switched f.ascending;
    differ = λ q h. let d = f.differ q h in (omega (arith, d.0, all), d.1);
    each = λ q d. go q d (is_open g x q.0) refl;
  }
    where
      go : (q : PairId) → order q.0 ≢ order_at g x q.0 → (b : Bool) → is_open g x q.0 ≡ b → Contains switched q
      go q d true e = f.each q (omega (arith, all, open_within g x q.0 e)) d
      go q d false e = absurd (d (keeps q.0 e))
