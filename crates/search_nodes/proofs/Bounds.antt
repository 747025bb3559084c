-- Paths of the robots, one after another.
use Rattle.std.proofs.Common.{ℕ, suc, zero, ◌≡◌, ◌≢◌, ◌+◌, ◌<◌, ◌≤◌, ◌⊎◌, List, [], ◌∷◌, ◌++◌, Some, Option, Bool, cond, eqb, refl, sym, ap, ◌∙◌, subst, inl, inr, arith, length}
use Rattle.std.proofs.lemmas.List.{append-nil}
use Rattle.std.proofs.lemmas.Bool.{cases_eq, eq-eqb, ne_eqb}
use Rattle.fleet_base.specs.declared.order.PairId.{PairId}
use Rattle.fleet_base.specs.declared.order.Side.{Side}
use Rattle.fleet_base.specs.Order.{Graph, last_in}
use Rattle.fleet_base.specs.State.{FleetState}
use Rattle.fleet_base.specs.Schedule.{IsCost, IsLeastSchedule, end_sum_of}
use Rattle.fleet_base.specs.Paths.{path_length}
use Rattle.fleet_base.proofs.Costs.{one_cost, one_least, cost_of_least}
use Rattle.longest_path.specs.declared.decision.Decision.{Decision as Given}
use Rattle.longest_path.specs.Decisions.{order_on as given_order}
use Rattle.longest_path.specs.Deciding.{IsLeastPath}
use Rattle.cert_tree.specs.declared.node.CertPath.{CertPath}
use Rattle.cert_tree.specs.Decisions.{Decision, order_on}
use Rattle.cert_tree.specs.Trees.{IsBound}
use Rattle.order_choice.specs.Writing.{add_path, paths_from}
use Rattle.order_choice.proofs.Bounds.{bound_of}
use Rattle.search_nodes.specs.Making.{given_on}
use Rattle.search_nodes.proofs.Ways.{same_order}

-- a path behind all others
pub paths_more : (f : ℕ → List PairId) (i n : ℕ) → paths_from f i (suc n) ≡ paths_from f i n ++ add_path (i + n) (f (i + n)) []
paths_more f i zero = ap (λ (m : ℕ). add_path m (f m) []) (let z : i ≡ i + 0 = omega arith in z)
paths_more f i (suc n) =
    ap (λ (ps : List CertPath). add_path i (f i) ps) (paths_more f (i + 1) n)
    ∙ put (f i) (paths_from f (i + 1) n) (add_path (i + 1 + n) (f (i + 1 + n)) [])
    ∙ ap (λ (m : ℕ). add_path i (f i) (paths_from f (i + 1) n) ++ add_path m (f m) []) (let z : i + 1 + n ≡ i + suc n = omega arith in z)
  where
    put : (pairs : List PairId) (front back : List CertPath) → add_path i pairs (front ++ back) ≡ add_path i pairs front ++ back
    put [] front back = refl
    put (q ∷ qs) front back = refl

-- the paths of the first robots depend on these alone
pub same_paths : (f h : ℕ → List PairId) (i n : ℕ) → ((j : ℕ) → i ≤ j → j < i + n → f j ≡ h j) → paths_from f i n ≡ paths_from h i n
same_paths f h i zero same = refl
same_paths f h i (suc n) same =
    ap (λ (pairs : List PairId). add_path i pairs (paths_from f (i + 1) n)) (same i (omega arith) (omega arith))
    ∙ ap (λ (ps : List CertPath). add_path i (h i) ps) (same_paths f h (i + 1) n (λ j a b. same j (omega (arith, a)) (omega (arith, b))))

-- these are the paths of the first robots
pub record ArePathsTo (g : Graph) (x : FleetState) (order : ℕ → Option Side) (n : ℕ) (paths : List CertPath) : Type 0 where
  pub pairs_for : ℕ → List PairId
  pub are : paths ≡ paths_from pairs_for 0 n
  pub each : (i : ℕ) → i < n → IsLeastPath g x order i (pairs_for i)

pub no_paths : (g : Graph) (x : FleetState) (order : ℕ → Option Side) → ArePathsTo g x order 0 []
no_paths g x order = record { pairs_for = λ _. []; are = refl; each = λ i h. absurd (omega (arith, h)) }

module _ (g : Graph) (x : FleetState) (order : ℕ → Option Side) (n : ℕ) (paths : List CertPath) (pairs : List PairId) (least : IsLeastPath g x order n pairs) (p : ArePathsTo g x order n paths) where
  more_for : ℕ → List PairId
  more_for i = cond (eqb i n) pairs (p.pairs_for i)

  before : (i : ℕ) → i < n → p.pairs_for i ≡ more_for i
  unfolding more_for
  before i h = sym (ap (λ (b : Bool). cond b pairs (p.pairs_for i)) (ne_eqb i n (omega arith)))

  here : more_for n ≡ pairs
  unfolding more_for
  here = ap (λ (b : Bool). cond b pairs (p.pairs_for n)) (eq-eqb n n refl)

  are_more : paths ++ add_path n pairs [] ≡ paths_from more_for 0 (n + 1)
  are_more =
      ap (λ (ps : List CertPath). ps ++ add_path n pairs []) (p.are ∙ same_paths p.pairs_for more_for 0 n (λ j a b. before j (omega (arith, b))))
      ∙ ap (λ (qs : List PairId). paths_from more_for 0 n ++ add_path n qs []) (sym here)
      ∙ ap (λ (m : ℕ). paths_from more_for 0 n ++ add_path m (more_for m) []) (let z : n ≡ 0 + n = omega arith in z)
      ∙ sym (paths_more more_for 0 n)
      ∙ ap (paths_from more_for 0) (let z : suc n ≡ n + 1 = omega arith in z)

  each_more : (i : ℕ) → i < n + 1 → IsLeastPath g x order i (more_for i)
  each_more i h = go (cases_eq i n)
    where
      go : (i ≡ n) ⊎ (i ≢ n) → IsLeastPath g x order i (more_for i)
      go (inl e) = subst (λ (m : ℕ). IsLeastPath g x order m (more_for m)) (sym e) (subst (λ (qs : List PairId). IsLeastPath g x order n qs) (sym here) least)
      go (inr ne) = subst (λ (qs : List PairId). IsLeastPath g x order i qs) (before i (omega (arith, h, ne))) (p.each i (omega (arith, h, ne)))

  -- a robot's path more, if it is not empty
  pub path_more : ArePathsTo g x order (n + 1) (paths ++ add_path n pairs [])
  path_more = record { pairs_for = more_for; are = are_more; each = each_more }

-- the paths of all robots are a Bound for whatever the relaxed cost reaches
pub are_bound : (g : Graph) (x : FleetState) (ds : List Given) (way : List Decision) (paths : List CertPath) (relaxed cost : ℕ) → 1 ≤ length g.lasts → ArePathsTo g x (given_order g x ds) (length g.lasts) paths → ds ≡ given_on way → IsCost g x (order_on g x way) relaxed → cost ≤ relaxed
    → IsBound g x way cost paths
are_bound g x ds way paths relaxed cost some p e k le =
    subst (λ (ps : List CertPath). IsBound g x way cost ps) (sym p.are) (bound_of g x way one.schedule cost p.pairs_for low long)
  where
    same : given_order g x ds ≡ order_on g x way
    same = ap (λ (es : List Given). given_order g x es) e ∙ same_order g x way

    one : IsLeastPath g x (given_order g x ds) 0 (p.pairs_for 0)
    one = p.each 0 (omega (arith, some))

    least : IsLeastSchedule g x (order_on g x way) one.schedule
    least = subst (λ (o : ℕ → Option Side). IsLeastSchedule g x o one.schedule) same one.least

    low : cost ≤ end_sum_of g one.schedule
    low = let c = one_cost g x (order_on g x way) relaxed (end_sum_of g one.schedule) k (cost_of_least g x (order_on g x way) one.schedule least) in omega (arith, c, le)

    long : (i : ℕ) → i < length g.lasts → path_length g x (order_on g x way) i (p.pairs_for i) ≡ Some (one.schedule (record { robot = i; index = last_in g i }))
    long i h =
        let mine = p.each i h in
        ap (λ (o : ℕ → Option Side). path_length g x o i (p.pairs_for i)) (sym same)
        ∙ mine.length
        ∙ ap Some (one_least g x (given_order g x ds) mine.schedule one.schedule mine.least one.least (record { robot = i; index = last_in g i }) (record { robot = h; index = omega arith }))
