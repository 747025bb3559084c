-- A Bound from paths that are as long as the last ticks of a least schedule.
use Rattle.std.proofs.Common.{ℕ, suc, zero, ◌≡◌, ◌+◌, ◌-◌, ◌<◌, ◌≤◌, ◌⊎◌, List, [], ◌∷◌, Some, Option, cond, refl, sym, ap, ◌∙◌, subst, inl, inr, arith, length}
use Rattle.std.specs.Prelude.{slice_index, All, IsSome, unwrap_or, map}
use Rattle.std.specs.List.Sorted.{IsStrictlyIncreasing}
use Rattle.std.proofs.lemmas.Bool.{cases_eq, eq-eqb, ne_eqb}
use Rattle.std.proofs.lemmas.List.Elements.{All-nil, All-cons}
use Rattle.fleet_base.specs.declared.geometry.Visit.{Visit}
use Rattle.fleet_base.specs.declared.order.PairId.{PairId}
use Rattle.fleet_base.specs.Order.{Graph, last_in}
use Rattle.fleet_base.specs.State.{FleetState}
use Rattle.fleet_base.specs.Schedule.{end_sum_of}
use Rattle.fleet_base.specs.Paths.{path_length}
use Rattle.fleet_base.proofs.Costs.{range_sum}
use Rattle.cert_tree.specs.declared.node.CertPath.{CertPath}
use Rattle.cert_tree.specs.declared.node.Node.TheVariants.{Bound}
use Rattle.cert_tree.specs.CertText.{IsWritten}
use Rattle.cert_tree.specs.Decisions.{Decision, order_on}
use Rattle.cert_tree.specs.Paths.{path_for, length_for, total_length}
use Rattle.cert_tree.specs.Trees.{IsBound}
use Rattle.cert_tree.proofs.EdgeLaws.{visit}
use Rattle.order_choice.specs.Writing.{add_path, paths_from}

-- ---- the paths that are not empty

-- a robot before the first has none
none_before : (f : ℕ → List PairId) (n a i : ℕ) → i < a → path_for (paths_from f a n) i ≡ []
none_before f zero a i lt = refl
none_before f (suc n) a i lt = go (f a) (none_before f n (a + 1) i (omega arith))
  where
    go : (pairs : List PairId) → path_for (paths_from f (a + 1) n) i ≡ [] → path_for (add_path a pairs (paths_from f (a + 1) n)) i ≡ []
    go [] h = h
    go (q ∷ qs) h = ap (λ b. cond b (q ∷ qs) (path_for (paths_from f (a + 1) n) i)) (ne_eqb a i (omega arith)) ∙ h

-- and each of them has its own
pub own_path : (f : ℕ → List PairId) (n a i : ℕ) → a ≤ i → i < a + n → path_for (paths_from f a n) i ≡ f i
own_path f zero a i low high = absurd (omega arith)
own_path f (suc n) a i low high = go (f a) refl (cases_eq a i) (λ h. own_path f n (a + 1) i h (omega arith))
  where
    go : (pairs : List PairId) → f a ≡ pairs → (a ≡ i) ⊎ (a ≡ i → ⊥) → (a + 1 ≤ i → path_for (paths_from f (a + 1) n) i ≡ f i) → path_for (add_path a pairs (paths_from f (a + 1) n)) i ≡ f i
    go [] e (inl s) rest = none_before f n (a + 1) i (omega arith) ∙ sym e ∙ ap f s
    go [] e (inr ne) rest = rest (omega arith)
    go (q ∷ qs) e (inl s) rest = ap (λ b. cond b (q ∷ qs) (path_for (paths_from f (a + 1) n) i)) (eq-eqb a i s) ∙ sym e ∙ ap f s
    go (q ∷ qs) e (inr ne) rest = ap (λ b. cond b (q ∷ qs) (path_for (paths_from f (a + 1) n) i)) (ne_eqb a i ne) ∙ rest (omega arith)

-- each is of a known robot, and has a pair
all_known : (f : ℕ → List PairId) (n a m : ℕ) → a + n ≤ m → All (λ (p : CertPath). p.robot < m) (paths_from f a n)
all_known f zero a m le = All-nil (λ (p : CertPath). p.robot < m)
all_known f (suc n) a m le = go (f a) (all_known f n (a + 1) m (omega arith))
  where
    go : (pairs : List PairId) → All (λ (p : CertPath). p.robot < m) (paths_from f (a + 1) n) → All (λ (p : CertPath). p.robot < m) (add_path a pairs (paths_from f (a + 1) n))
    go [] h = h
    go (q ∷ qs) h = All-cons (λ (p : CertPath). p.robot < m) _ (paths_from f (a + 1) n) (omega arith) h

all_some : (f : ℕ → List PairId) (n a : ℕ) → All (λ (p : CertPath). 1 ≤ length p.pairs) (paths_from f a n)
all_some f zero a = All-nil (λ (p : CertPath). 1 ≤ length p.pairs)
all_some f (suc n) a = go (f a) (all_some f n (a + 1))
  where
    go : (pairs : List PairId) → All (λ (p : CertPath). 1 ≤ length p.pairs) (paths_from f (a + 1) n) → All (λ (p : CertPath). 1 ≤ length p.pairs) (add_path a pairs (paths_from f (a + 1) n))
    go [] h = h
    go (q ∷ qs) h = All-cons (λ (p : CertPath). 1 ≤ length p.pairs) _ (paths_from f (a + 1) n) (omega arith) h

abbrev robots_of : List CertPath → List ℕ
robots_of ps = map (λ (p : CertPath). p.robot) ps

all_above : (f : ℕ → List PairId) (n a k : ℕ) → k < length (robots_of (paths_from f a n)) → a ≤ slice_index (robots_of (paths_from f a n)) k
all_above f zero a k h = absurd (omega (arith, h))
all_above f (suc n) a k h = go (f a) k h (λ j l. all_above f n (a + 1) j l)
  where
    go : (pairs : List PairId) (k : ℕ) → k < length (robots_of (add_path a pairs (paths_from f (a + 1) n))) → ((j : ℕ) → j < length (robots_of (paths_from f (a + 1) n)) → a + 1 ≤ slice_index (robots_of (paths_from f (a + 1) n)) j)
        → a ≤ slice_index (robots_of (add_path a pairs (paths_from f (a + 1) n))) k
    go [] k l rest = let z = rest k l in omega arith
    go (q ∷ qs) zero l rest = omega arith
    go (q ∷ qs) (suc k) l rest = let z = rest k (omega (arith, l)) in omega arith

ascending : (f : ℕ → List PairId) (n a : ℕ) → IsStrictlyIncreasing (robots_of (paths_from f a n))
ascending f zero a = λ k h. absurd (omega (arith, h))
ascending f (suc n) a = go (f a) (ascending f n (a + 1))
  where
    two : (k : ℕ) → IsStrictlyIncreasing (robots_of (paths_from f (a + 1) n)) → k + 1 < suc (length (robots_of (paths_from f (a + 1) n))) → slice_index (a ∷ robots_of (paths_from f (a + 1) n)) k < slice_index (a ∷ robots_of (paths_from f (a + 1) n)) (suc k)
    two zero up h = let z = all_above f n (a + 1) 0 (omega (arith, h)) in omega arith
    two (suc k) up h =
        let z = up k (omega (arith, h)) in
        let e = ap (slice_index (robots_of (paths_from f (a + 1) n))) (let y : k + 1 ≡ suc k = omega arith in y) in
        omega arith

    next : (k : ℕ) → IsStrictlyIncreasing (robots_of (paths_from f (a + 1) n)) → k + 1 < suc (length (robots_of (paths_from f (a + 1) n))) → slice_index (a ∷ robots_of (paths_from f (a + 1) n)) k < slice_index (a ∷ robots_of (paths_from f (a + 1) n)) (k + 1)
    next k up h =
        let e = ap (slice_index (a ∷ robots_of (paths_from f (a + 1) n))) (let y : k + 1 ≡ suc k = omega arith in y) in
        let z = two k up h in
        omega arith

    go : (pairs : List PairId) → IsStrictlyIncreasing (robots_of (paths_from f (a + 1) n)) → IsStrictlyIncreasing (robots_of (add_path a pairs (paths_from f (a + 1) n)))
    go [] up = up
    go (q ∷ qs) up = λ k h. next k up h

module _ (g : Graph) (x : FleetState) (way : List Decision) (s : Visit → ℕ) (cost : ℕ) (pairs_for : ℕ → List PairId) (low : cost ≤ end_sum_of g s)
    (long : (i : ℕ) → i < length g.lasts → path_length g x (order_on g x way) i (pairs_for i) ≡ Some (s (visit i (last_in g i)))) where
  length_is : (i : ℕ) → i < length g.lasts → length_for g x (order_on g x way) (paths_from pairs_for 0 (length g.lasts)) i ≡ Some (s (visit i (last_in g i)))
  length_is i h = ap (path_length g x (order_on g x way) i) (own_path pairs_for (length g.lasts) 0 i (omega arith) (omega arith)) ∙ long i h

  -- the paths are a Bound
  pub bound_of : IsBound g x way cost (paths_from pairs_for 0 (length g.lasts))
  bound_of = (
    record {
      known = all_known pairs_for (length g.lasts) 0 (length g.lasts) (omega arith);
      each = λ i h. subst (λ (o : Option ℕ). IsSome o) (sym (length_is i h)) refl;
    },
    enough,
  )
    where
      enough : cost ≤ total_length g x (order_on g x way) (paths_from pairs_for 0 (length g.lasts))
      enough =
          let h = range_sum (λ i. s (visit i (last_in g i))) (λ i. unwrap_or (length_for g x (order_on g x way) (paths_from pairs_for 0 (length g.lasts)) i) 0) (length g.lasts - 0) 0
          (λ i a b. let e = ap (λ (o : Option ℕ). unwrap_or o 0) (length_is i (omega arith)) in omega arith) in
          omega (arith, low, h)

-- and can be written
pub bound_written : (n : ℕ) (pairs_for : ℕ → List PairId) → IsWritten (Bound (paths_from pairs_for 0 n))
bound_written n pairs_for = (all_some pairs_for n 0, ascending pairs_for n 0)
