-- What is judged by the sides is judged by the decisions that give them.
use Rattle.std.proofs.Common.{ℕ, ◌≡◌, ◌+◌, ◌<◌, ◌≤◌, ◌⊎◌, List, [], ◌∷◌, Some, None, Option, true, false, Bool, cond, refl, sym, ap, ◌∙◌, subst, inl, inr, arith, length, set, get_or}
use Rattle.fleet_base.specs.declared.order.Side.TheVariants.{Lower, Higher}
use Rattle.std.specs.Prelude.{IsTrue, not, slice_get, slice_set, zero, suc}
use Rattle.std.proofs.lemmas.Bool.{false≢true, cases_eq, eq-eqb, ne_eqb}
use Rattle.std.proofs.lemmas.List.{get_or-set_same, get_or-set_other}
use Rattle.fleet_base.specs.declared.geometry.Visit.{Visit}
use Rattle.fleet_base.specs.declared.order.Pair.{Pair as PairOf}
use Rattle.fleet_base.specs.declared.order.PairId.{PairId}
use Rattle.fleet_base.specs.declared.order.Side.{Side}
use Rattle.fleet_base.specs.Order.{Graph, IsVisit, next_visit, first_visit, second_visit, IsCycle, IsCyclic, IsSorted, other_side}
use Rattle.fleet_base.specs.State.{FleetState}
use Rattle.fleet_base.specs.Open.{is_open}
use Rattle.fleet_base.specs.Rules.{IsFleetState}
use Rattle.fleet_base.specs.Schedule.{IsLeastSchedule, IsCost, ObeysEdge, ObeysSide, end_sum_of}
use Rattle.cert_tree.specs.declared.node.CertPath.{CertPath}
use Rattle.cert_tree.specs.declared.node.Node.TheVariants.{Branch, Force, Cyclic, Bound, OpenLeaf}
use Rattle.cert_check.specs.declared.judge.Kind.{Kind}
use Rattle.cert_check.specs.declared.judge.Kind.TheVariants as kind
use Rattle.cert_check.specs.declared.verdict.NoWhy.{NoWhy}
use Rattle.cert_check.specs.declared.verdict.NoWhy.TheVariants.{Shape, Pair, Cycle, Path, Sum, Leaf, Needed}
use Rattle.cert_tree.specs.Decisions.{Decision, side_on, order_on, IsFree}
use Rattle.cert_tree.specs.Paths.{ArePaths, total_length}
use Rattle.cert_check.specs.Sides.{decided, order_by}
use Rattle.cert_tree.specs.Trees.{force_to, IsAcyclic, IsNeeded, IsLeftOpen}
use Rattle.cert_tree.proofs.Lawful.{listed}
use Rattle.cert_tree.proofs.Walks.{tail_there}
use Rattle.fleet_base.proofs.Edges.{head_there}
use Rattle.fleet_base.proofs.OpenPairs.{open_goes_on}
use Rattle.cert_tree.proofs.EdgeLaws.{visit_before}
use Rattle.cert_check.specs.Verdicts.{rank_of, IsFault, IsOptimalFault}
use Rattle.cert_check.specs.Judging.{Gives, Judges, IsFaultAlone, MeetsAlone, FailsAlone, IsJudged}
use Rattle.fleet_base.proofs.Costs.{one_least, cost_of_least, one_cost}
use Rattle.cert_check.specs.Sides.{HasSides}
use Rattle.cert_check.proofs.SideLaws.{same_order, keeps, open_within}

only_value : (p r : PairOf) → Some p ≡ Some r → p ≡ r
only_value p r e = cc

-- ticks obey a side of a pair where they obey its edge
pub sided : (x : FleetState) (s : Visit → ℕ) (pair : PairOf) (d : Side) (u v : Visit) (b : Bool) → u ≡ next_visit (first_visit pair d) → v ≡ second_visit pair d → (IsTrue b → ObeysEdge x s u v) × (ObeysEdge x s u v → IsTrue b) → (IsTrue b → ObeysSide x s pair d) × (ObeysSide x s pair d → IsTrue b)
sided x s pair d u v b tail head same =
    subst (λ (w : Visit). (IsTrue b → ObeysEdge x s (next_visit (first_visit pair d)) w) × (ObeysEdge x s (next_visit (first_visit pair d)) w → IsTrue b)) head
    (subst (λ (w : Visit). (IsTrue b → ObeysEdge x s w v) × (ObeysEdge x s w v → IsTrue b)) tail same)

-- a side that was not decided is again not decided
pub set_back : (sides : List (Option Side)) (q : ℕ) (s : Side) → decided sides q ≡ None → slice_set (slice_set sides q (Some s)) q None ≡ sides
set_back [] q s e = refl
set_back (a ∷ xs) zero s e = ap (λ o. o ∷ xs) (sym e)
set_back (a ∷ xs) (suc q) s e = ap (λ l. a ∷ l) (set_back xs q s e)

pub open_inside : (g : Graph) (x : FleetState) (sides : List (Option Side)) (q : ℕ) → HasSides g sides → (is_open g x q ≡ true) × (decided sides q ≡ None) → q < length sides
open_inside g x sides q has free = subst (λ n. q < n) (sym has) (open_within g x q free.0)

module _ (g : Graph) (x : FleetState) (cost : ℕ) (way : List Decision) where
  -- no word of lower rank fits
  bound_low : (paths : List CertPath) (w : NoWhy) → rank_of w < 3 → IsFault g x cost way (Bound paths) w → ⊥
  bound_low paths Shape lt f = f
  bound_low paths Pair lt f = f
  bound_low paths Cycle lt f = f
  bound_low paths w lt f = omega (arith, lt)

  bound_mid : (paths : List CertPath) → ArePaths g x (order_on g x way) paths → (w : NoWhy) → rank_of w < 4 → IsFault g x cost way (Bound paths) w → ⊥
  bound_mid paths are Shape lt f = f
  bound_mid paths are Pair lt f = f
  bound_mid paths are Cycle lt f = f
  bound_mid paths are Path lt f = f are
  bound_mid paths are w lt f = omega (arith, lt)

  cyclic_low : (cycle : List PairId) (w : NoWhy) → rank_of w < 2 → IsFault g x cost way (Cyclic cycle) w → ⊥
  cyclic_low cycle Shape lt f = f
  cyclic_low cycle Pair lt f = f
  cyclic_low cycle w lt f = omega (arith, lt)

  force_low : (q : PairId) (s : Side) (cycle : List PairId) (w : NoWhy) → rank_of w < 1 → IsFault g x cost way (Force q s cycle) w → ⊥
  force_low q s cycle Shape lt f = f
  force_low q s cycle w lt f = omega (arith, lt)

  force_mid : (q : PairId) (s : Side) (cycle : List PairId) → IsFree g x way q.0 → (w : NoWhy) → rank_of w < 2 → IsFault g x cost way (Force q s cycle) w → ⊥
  force_mid q s cycle free Shape lt f = f
  force_mid q s cycle free Pair lt f = f free
  force_mid q s cycle free w lt f = omega (arith, lt)

  branch_low : (q : PairId) (w : NoWhy) → rank_of w < 1 → IsOptimalFault g x cost way (Branch q) w → ⊥
  branch_low q Shape lt f = f
  branch_low q w lt f = omega (arith, lt)

  branch_low_spent : (least : ℕ) (q : PairId) (w : NoWhy) → rank_of w < 1 → IsFaultAlone g x cost least way (Branch q) w → ⊥
  branch_low_spent least q Shape lt f = f
  branch_low_spent least q w lt f = omega (arith, lt)

  branch_mid : (least : ℕ) (q : PairId) → IsFree g x way q.0 → (w : NoWhy) → rank_of w < 6 → IsFaultAlone g x cost least way (Branch q) w → ⊥
  branch_mid least q free Shape lt f = f
  branch_mid least q free Pair lt f = f free
  branch_mid least q free Cycle lt f = f
  branch_mid least q free Path lt f = f
  branch_mid least q free Sum lt f = f
  branch_mid least q free Leaf lt f = f
  branch_mid least q free w lt f = omega (arith, lt)

  leaf_low : (v : ℕ) (w : NoWhy) → rank_of w < 5 → IsOptimalFault g x cost way (OpenLeaf v) w → ⊥
  leaf_low v Shape lt f = f
  leaf_low v Pair lt f = f
  leaf_low v Cycle lt f = f
  leaf_low v Path lt f = f
  leaf_low v Sum lt f = f
  leaf_low v w lt f = omega (arith, lt)

  leaf_low_spent : (least v : ℕ) (w : NoWhy) → rank_of w < 5 → IsFaultAlone g x cost least way (OpenLeaf v) w → ⊥
  leaf_low_spent least v Shape lt f = f
  leaf_low_spent least v Pair lt f = f
  leaf_low_spent least v Cycle lt f = f
  leaf_low_spent least v Path lt f = f
  leaf_low_spent least v Sum lt f = f
  leaf_low_spent least v w lt f = omega (arith, lt)

-- what is said of each kind is said of the one at hand
pub of_kind : (P : Kind → Type 0) → P kind.Optimal → ((least : ℕ) → P (kind.Spent least)) → (k : Kind) → P k
of_kind P a b kind.Optimal = a
of_kind P a b (kind.Spent least) = b least

module _ (g : Graph) (x : FleetState) (sides : List (Option Side)) where
  module _ (way : List Decision) (gives : Gives way sides) where
    free_on : (q : ℕ) → (is_open g x q ≡ true) × (decided sides q ≡ None) → IsFree g x way q
    free_on q f = (f.0, sym (gives q) ∙ f.1)

    free_by : (q : ℕ) → IsFree g x way q → (is_open g x q ≡ true) × (decided sides q ≡ None)
    free_by q f = (f.0, gives q ∙ f.1)

    on : (P : (ℕ → Option Side) → Type 0) → P (order_by g x sides) → P (order_on g x way)
    on P h = subst P (same_order g x way sides gives) h

    by : (P : (ℕ → Option Side) → Type 0) → P (order_on g x way) → P (order_by g x sides)
    by P h = subst P (sym (same_order g x way sides gives)) h

  -- a cycle
  pub cyclic_judged : (cycle : List PairId) (is : Bool) (found : Option NoWhy) → (is ≡ true → IsCycle g (order_by g x sides) cycle) × (IsCycle g (order_by g x sides) cycle → is ≡ true) → found ≡ cond is None (Some Cycle) → (cost : ℕ) (k : Kind) → IsJudged g x cost k sides (Cyclic cycle) found
  cyclic_judged cycle is found test e cost k way gives = subst (λ o. Judges (MeetsAlone g x cost k way (Cyclic cycle)) (FailsAlone g x cost k way (Cyclic cycle)) o) (sym e) (go is test k)
    where
      go : (b : Bool) → (b ≡ true → IsCycle g (order_by g x sides) cycle) × (IsCycle g (order_by g x sides) cycle → b ≡ true) → (k : Kind) → Judges (MeetsAlone g x cost k way (Cyclic cycle)) (FailsAlone g x cost k way (Cyclic cycle)) (cond b None (Some Cycle))
      go true t kind.Optimal = (on way gives (λ o. IsCycle g o cycle) (t.0 refl), tt)
      go true t (kind.Spent least) = (on way gives (λ o. IsCycle g o cycle) (t.0 refl), tt)
      go false t kind.Optimal = (λ c. (let z = t.1 (by way gives (λ o. IsCycle g o cycle) c) in cc), λ w lt f. cyclic_low g x cost way cycle w lt f)
      go false t (kind.Spent least) = (λ c. (let z = t.1 (by way gives (λ o. IsCycle g o cycle) c) in cc), λ w lt f. cyclic_low g x cost way cycle w lt f)

  -- a Bound
  pub bound_no_path : (paths : List CertPath) → (ArePaths g x (order_by g x sides) paths → ⊥) → (cost : ℕ) (k : Kind) → IsJudged g x cost k sides (Bound paths) (Some Path)
  bound_no_path paths none cost kind.Optimal way gives = (λ a. none (by way gives (λ o. ArePaths g x o paths) a), λ w lt f. bound_low g x cost way paths w lt f)
  bound_no_path paths none cost (kind.Spent least) way gives = (λ a. none (by way gives (λ o. ArePaths g x o paths) a), λ w lt f. bound_low g x cost way paths w lt f)

  pub bound_short : (paths : List CertPath) (total cost : ℕ) → ArePaths g x (order_by g x sides) paths → total ≡ total_length g x (order_by g x sides) paths → total < cost → (k : Kind) → IsJudged g x cost k sides (Bound paths) (Some Sum)
  bound_short paths total cost are e lt kind.Optimal way gives = (on way gives (λ o. total_length g x o paths < cost) (omega (arith, e, lt)), λ w l f. bound_mid g x cost way paths (on way gives (λ o. ArePaths g x o paths) are) w l f)
  bound_short paths total cost are e lt (kind.Spent least) way gives = (on way gives (λ o. total_length g x o paths < cost) (omega (arith, e, lt)), λ w l f. bound_mid g x cost way paths (on way gives (λ o. ArePaths g x o paths) are) w l f)

  pub bound_long : (paths : List CertPath) (total cost : ℕ) → ArePaths g x (order_by g x sides) paths → total ≡ total_length g x (order_by g x sides) paths → cost ≤ total → (k : Kind) → IsJudged g x cost k sides (Bound paths) None
  bound_long paths total cost are e le kind.Optimal way gives = ((on way gives (λ o. ArePaths g x o paths) are, on way gives (λ o. cost ≤ total_length g x o paths) (omega (arith, e, le))), tt)
  bound_long paths total cost are e le (kind.Spent least) way gives = ((on way gives (λ o. ArePaths g x o paths) are, on way gives (λ o. cost ≤ total_length g x o paths) (omega (arith, e, le))), tt)

  -- a Branch
  pub branch_not_free : (q : PairId) → ((is_open g x q.0 ≡ true) × (decided sides q.0 ≡ None) → ⊥) → (cost : ℕ) (k : Kind) → IsJudged g x cost k sides (Branch q) (Some Pair)
  branch_not_free q none cost kind.Optimal way gives = (λ f. none (free_by way gives q.0 f), λ w lt f. branch_low g x cost way q w lt f)
  branch_not_free q none cost (kind.Spent least) way gives = (λ f. none (free_by way gives q.0 f), λ w lt f. branch_low_spent g x cost way least q w lt f)

  pub branch_optimal : (q : PairId) → (is_open g x q.0 ≡ true) × (decided sides q.0 ≡ None) → (cost : ℕ) → IsJudged g x cost kind.Optimal sides (Branch q) None
  branch_optimal q free cost way gives = (free_on way gives q.0 free, tt)

  pub branch_needed : (q : PairId) → (is_open g x q.0 ≡ true) × (decided sides q.0 ≡ None) → (cost least : ℕ) → ((way : List Decision) → Gives way sides → IsNeeded g x cost least way q.0) → IsJudged g x cost (kind.Spent least) sides (Branch q) None
  branch_needed q free cost least needed way gives = (free_on way gives q.0 free, needed way gives)

  pub branch_not_needed : (q : PairId) → (is_open g x q.0 ≡ true) × (decided sides q.0 ≡ None) → (cost least : ℕ) → ((way : List Decision) → Gives way sides → IsNeeded g x cost least way q.0 → ⊥) → IsJudged g x cost (kind.Spent least) sides (Branch q) (Some Needed)
  branch_not_needed q free cost least none way gives = (none way gives, λ w lt f. branch_mid g x cost way least q (free_on way gives q.0 free) w lt f)

  -- an open leaf
  pub leaf_optimal : (v cost : ℕ) → IsJudged g x cost kind.Optimal sides (OpenLeaf v) (Some Leaf)
  leaf_optimal v cost way gives = (tt, λ w lt f. leaf_low g x cost way v w lt f)

  pub leaf_left : (v cost least : ℕ) → ((way : List Decision) → Gives way sides → IsLeftOpen g x cost way v) → IsJudged g x cost (kind.Spent least) sides (OpenLeaf v) None
  leaf_left v cost least left way gives = (tt, left way gives)

  pub leaf_not_left : (v cost least : ℕ) → ((way : List Decision) → Gives way sides → IsLeftOpen g x cost way v → ⊥) → IsJudged g x cost (kind.Spent least) sides (OpenLeaf v) (Some Leaf)
  leaf_not_left v cost least none way gives = (none way gives, λ w lt f. leaf_low_spent g x cost way least v w lt f)

  -- a Force
  pub force_not_free : (q : PairId) (s : Side) (cycle : List PairId) → ((is_open g x q.0 ≡ true) × (decided sides q.0 ≡ None) → ⊥) → (cost : ℕ) (k : Kind) → IsJudged g x cost k sides (Force q s cycle) (Some Pair)
  force_not_free q s cycle none cost kind.Optimal way gives = (λ f. none (free_by way gives q.0 f), λ w lt f. force_low g x cost way q s cycle w lt f)
  force_not_free q s cycle none cost (kind.Spent least) way gives = (λ f. none (free_by way gives q.0 f), λ w lt f. force_low g x cost way q s cycle w lt f)

  -- the decisions with the other side
  forced_gives : (q : PairId) (s : Side) (way : List Decision) → Gives way sides → q.0 < length sides → Gives (force_to q s ∷ way) (set sides q.0 (Some s))
  forced_gives q s way gives inside r = go (cases_eq q.0 r)
    where
      go : (q.0 ≡ r) ⊎ (q.0 ≡ r → ⊥) → decided (set sides q.0 (Some s)) r ≡ side_on (force_to q s ∷ way) r
      go (inl e) = ap (λ n. get_or (set sides q.0 (Some s)) n None) (sym e) ∙ get_or-set_same sides q.0 (Some s) None inside ∙ sym (ap (λ b. cond b (Some s) (side_on way r)) (eq-eqb q.0 r e))
      go (inr n) = get_or-set_other sides q.0 r (Some s) None (λ e. n (sym e)) ∙ gives r ∙ sym (ap (λ b. cond b (Some s) (side_on way r)) (ne_eqb q.0 r n))

  pub force_judged : (q : PairId) (s : Side) (cycle : List PairId) (is : Bool) (found : Option NoWhy) → (is_open g x q.0 ≡ true) × (decided sides q.0 ≡ None) → q.0 < length sides → (is ≡ true → IsCycle g (order_by g x (set sides q.0 (Some (other_side s)))) cycle) × (IsCycle g (order_by g x (set sides q.0 (Some (other_side s)))) cycle → is ≡ true) → found ≡ cond is None (Some Cycle) → (cost : ℕ) (k : Kind) → IsJudged g x cost k sides (Force q s cycle) found
  force_judged q s cycle is found free inside test e cost k way gives = subst (λ o. Judges (MeetsAlone g x cost k way (Force q s cycle)) (FailsAlone g x cost k way (Force q s cycle)) o) (sym e) (go is test k)
    where
      same : order_by g x (set sides q.0 (Some (other_side s))) ≡ order_on g x (force_to q (other_side s) ∷ way)
      same = same_order g x (force_to q (other_side s) ∷ way) (set sides q.0 (Some (other_side s))) (forced_gives q (other_side s) way gives inside)

      there : IsCycle g (order_by g x (set sides q.0 (Some (other_side s)))) cycle → IsCycle g (order_on g x (force_to q (other_side s) ∷ way)) cycle
      there c = subst (λ (o : ℕ → Option Side). IsCycle g o cycle) same c

      back : IsCycle g (order_on g x (force_to q (other_side s) ∷ way)) cycle → IsCycle g (order_by g x (set sides q.0 (Some (other_side s)))) cycle
      back c = subst (λ (o : ℕ → Option Side). IsCycle g o cycle) (sym same) c

      go : (b : Bool) → (b ≡ true → IsCycle g (order_by g x (set sides q.0 (Some (other_side s)))) cycle) × (IsCycle g (order_by g x (set sides q.0 (Some (other_side s)))) cycle → b ≡ true) → (k : Kind) → Judges (MeetsAlone g x cost k way (Force q s cycle)) (FailsAlone g x cost k way (Force q s cycle)) (cond b None (Some Cycle))
      go true t kind.Optimal = ((free_on way gives q.0 free, there (t.0 refl)), tt)
      go true t (kind.Spent least) = ((free_on way gives q.0 free, there (t.0 refl)), tt)
      go false t kind.Optimal = (λ c. (let z = t.1 (back c) in cc), λ w lt f. force_mid g x cost way q s cycle (free_on way gives q.0 free) w lt f)
      go false t (kind.Spent least) = (λ c. (let z = t.1 (back c) in cc), λ w lt f. force_mid g x cost way q s cycle (free_on way gives q.0 free) w lt f)

  pub force_judged_by : (q : PairId) (s : Side) (cycle : List PairId) (is : Bool) (found : Option NoWhy) (o : Side) → o ≡ other_side s → (is_open g x q.0 ≡ true) × (decided sides q.0 ≡ None) → q.0 < length sides → (is ≡ true → IsCycle g (order_by g x (set sides q.0 (Some o))) cycle) × (IsCycle g (order_by g x (set sides q.0 (Some o))) cycle → is ≡ true) → found ≡ cond is None (Some Cycle) → (cost : ℕ) (k : Kind) → IsJudged g x cost k sides (Force q s cycle) found
  force_judged_by q s cycle is found o eq free inside test e = force_judged q s cycle is found free inside (subst (λ (d : Side). (is ≡ true → IsCycle g (order_by g x (set sides q.0 (Some d))) cycle) × (IsCycle g (order_by g x (set sides q.0 (Some d))) cycle → is ≡ true)) eq test) e

  -- ---- a part decision, relaxed
  -- where rounds never end, no branch is needed and no leaf is left open
  pub cyclic_not_needed : IsCyclic g (order_by g x sides) → (cost most : ℕ) (way : List Decision) (q : ℕ) → Gives way sides → IsNeeded g x cost most way q → ⊥
  cyclic_not_needed cyclic cost most way q gives n = cyclic n.acyclic.list (by way gives (λ o. IsSorted g o n.acyclic.list) n.acyclic.sorted)

  pub cyclic_not_left : IsCyclic g (order_by g x sides) → (cost v : ℕ) (way : List Decision) → Gives way sides → IsLeftOpen g x cost way v → ⊥
  cyclic_not_left cyclic cost v way gives n = cyclic n.acyclic.list (by way gives (λ o. IsSorted g o n.acyclic.list) n.acyclic.sorted)

  module _ (state : IsFleetState g x) (s : Visit → ℕ) (least : IsLeastSchedule g x (order_by g x sides) s) where
    sorted_list : (list : List Visit) × IsSorted g (order_by g x sides) list
    sorted_list = listed g x state (order_by g x sides) (keeps g x sides) s
        (λ v is. least.obeys v (next_visit v) (visit_before g v.robot (v.index + 1) v.index is (omega arith)) is (inl refl))
        (λ q u v e. least.obeys u v (tail_there g x state (order_by g x sides) (keeps g x sides) q u v e) (head_there g (order_by g x sides) q u v state.fleet.graph e) (inr (q, e)))

    acyclic_on : (way : List Decision) → Gives way sides → IsAcyclic g x way
    acyclic_on way gives = record { list = sorted_list.0; sorted = on way gives (λ o. IsSorted g o sorted_list.0) sorted_list.1 }

    pub needed_is : (cost most : ℕ) (way : List Decision) (q : ℕ) → Gives way sides → end_sum_of g s < cost → end_sum_of g s ≤ most → ((pair : PairOf) (d : Side) → slice_get g.pairs q ≡ Some pair → ¬ ObeysSide x s pair d) → IsNeeded g x cost most way q
    needed_is cost most way q gives below within conflict = record {
      acyclic = acyclic_on way gives;
      ticks = s;
      schedule = on way gives (λ o. IsLeastSchedule g x o s) least;
      below = below;
      within = within;
      conflict = conflict;
    }

    same_sum : (t : Visit → ℕ) (way : List Decision) → Gives way sides → IsLeastSchedule g x (order_on g x way) t → end_sum_of g s ≡ end_sum_of g t
    same_sum t way gives b = one_cost g x (order_by g x sides) (end_sum_of g s) (end_sum_of g t) (cost_of_least g x (order_by g x sides) s least) (cost_of_least g x (order_by g x sides) t (by way gives (λ o. IsLeastSchedule g x o t) b))

    -- a relaxed cost that is not below the cost, or more than what is left
    pub dear_not_needed : (sum cost most : ℕ) → sum ≡ end_sum_of g s → (cost ≤ sum) ⊎ (most < sum) → (way : List Decision) (q : ℕ) → Gives way sides → IsNeeded g x cost most way q → ⊥
    dear_not_needed sum cost most e (inl h) way q gives n = let same = same_sum n.ticks way gives n.schedule in omega (arith, e, h, same, n.below, n.within)
    dear_not_needed sum cost most e (inr h) way q gives n = let same = same_sum n.ticks way gives n.schedule in omega (arith, e, h, same, n.below, n.within)

    -- where the edge of one side is obeyed, no branch is needed
    pub obeyed_not_needed : (pair : PairOf) (d : Side) (q : ℕ) → slice_get g.pairs q ≡ Some pair → is_open g x q ≡ true → ObeysSide x s pair d → (cost most : ℕ) (way : List Decision) → Gives way sides → IsNeeded g x cost most way q → ⊥
    obeyed_not_needed pair d q there o obeys cost most way gives n = n.conflict pair d there (go obeys)
      where
        u : Visit
        u = next_visit (first_visit pair d)

        v : Visit
        v = second_visit pair d

        same : (w : Visit) → IsVisit g w → s w ≡ n.ticks w
        same w is = one_least g x (order_by g x sides) s n.ticks least (by way gives (λ order. IsLeastSchedule g x order n.ticks) n.schedule) w is

        iu : IsVisit g u
        iu = open_goes_on g x q pair d state.fleet.graph there o

        iv : IsVisit g v
        iv = head_there g (λ r. Some d) q u v state.fleet.graph (record { pair = pair; side = d; listed = there; sided = refl; tail = refl; head = refl })

        go : ObeysSide x s pair d → ObeysSide x n.ticks pair d
        go (inl h) = inl h
        go (inr le) = let a = same u iu in let b = same v iv in inr (omega (arith, le, a, b))

    -- where neither edge is obeyed, it is
    pub needed_by : (pair : PairOf) (q : ℕ) → slice_get g.pairs q ≡ Some pair → is_open g x q ≡ true → (lower higher : Bool) → lower ≡ false → (IsTrue lower → ObeysSide x s pair Lower) × (ObeysSide x s pair Lower → IsTrue lower) → (IsTrue higher → ObeysSide x s pair Higher) × (ObeysSide x s pair Higher → IsTrue higher) → (cost most : ℕ) → end_sum_of g s < cost → end_sum_of g s ≤ most → (way : List Decision) → Gives way sides → (IsTrue (not higher) → IsNeeded g x cost most way q) × (IsNeeded g x cost most way q → IsTrue (not higher))
    needed_by pair q there o lower higher off low high cost most below within way gives = (λ t. needed_is cost most way q gives below within (neither t), λ n. go higher (λ h. obeyed_not_needed pair Higher q there o (high.0 h) cost most way gives n))
      where
        no_higher : (h : Bool) → IsTrue (not h) → IsTrue h → ⊥
        no_higher true a b = false≢true a
        no_higher false a b = false≢true b

        neither : IsTrue (not higher) → (p : PairOf) (d : Side) → slice_get g.pairs q ≡ Some p → ¬ ObeysSide x s p d
        neither t p Lower at ob = false≢true (sym off ∙ low.1 (subst (λ (z : PairOf). ObeysSide x s z Lower) (only_value p pair (sym at ∙ there)) ob))
        neither t p Higher at ob = no_higher higher t (high.1 (subst (λ (z : PairOf). ObeysSide x s z Higher) (only_value p pair (sym at ∙ there)) ob))

        go : (h : Bool) → (IsTrue h → ⊥) → IsTrue (not h)
        go true n = absurd (n refl)
        go false n = refl

    pub left_is : (cost v : ℕ) → v < cost → end_sum_of g s ≡ v → (way : List Decision) → Gives way sides → ((q : ℕ) × (is_open g x q ≡ true) × (decided sides q ≡ None)) → IsLeftOpen g x cost way v
    left_is cost v below sum way gives (q, o, f) = record {
      acyclic = acyclic_on way gives;
      relaxed = on way gives (λ (order : ℕ → Option Side). IsCost g x order v) (subst (λ n. IsCost g x (order_by g x sides) n) sum (cost_of_least g x (order_by g x sides) s least));
      below = below;
      pair = q;
      free = free_on way gives q (o, f);
    }

    pub left_sum : (cost v : ℕ) (way : List Decision) → Gives way sides → IsLeftOpen g x cost way v → end_sum_of g s ≡ v
    left_sum cost v way gives n = one_cost g x (order_by g x sides) (end_sum_of g s) v (cost_of_least g x (order_by g x sides) s least) (by way gives (λ o. IsCost g x o v) n.relaxed)

  pub left_free : (cost v : ℕ) (way : List Decision) → Gives way sides → IsLeftOpen g x cost way v → (q : ℕ) × (is_open g x q ≡ true) × (decided sides q ≡ None)
  left_free cost v way gives n = (n.pair, (free_by way gives n.pair n.free).0, (free_by way gives n.pair n.free).1)
