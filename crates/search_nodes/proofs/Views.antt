-- A view whose pairs get their sides one after another.
use Rattle.std.proofs.Common.{ℕ, ◌≡◌, ◌≢◌, ◌+◌, ◌<◌, ◌≤◌, ◌⊎◌, ◌↔◌, List, ◌∷◌, Some, None, Option, refl, sym, ap, ◌∙◌, subst, inl, inr, arith, length, set, get_or}
use Rattle.std.specs.Prelude.{Result, Ok, Err, IsErr, OnErr}
use Rattle.std.proofs.lemmas.Bool.{cases_lt, cases_eq}
use Rattle.std.proofs.lemmas.List.{get_or-set_same, get_or-set_other, length-set, length-replicate, get_or_past}
use Rattle.fleet_base.specs.declared.order.Side.{Side}
use Rattle.fleet_base.specs.declared.order.PairId.{PairId}
use Rattle.fleet_base.specs.Order.{Graph, IsCycle, IsCyclic}
use Rattle.fleet_base.specs.State.{FleetState}
use Rattle.plan_graph.specs.Views.{OrientedGraph, order_in, undecided}
use Rattle.longest_path.specs.declared.decision.Decision.{Decision as Given}
use Rattle.longest_path.specs.Decisions.{order_on, IsFree}
use Rattle.longest_path.proofs.LiveLaws.{one_order, set_decided}
use Rattle.search_nodes.specs.Forcing.{given_to}
use Rattle.search_nodes.specs.Weighing.{IsViewOf, IsCandidateSide, IsCandidateOrder}

-- the first so many pairs are as they should be
pub record IsWrittenTo (g : Graph) (P : ℕ → Option Side → Type 0) (n : ℕ) (view : OrientedGraph) : Type 0 where
  pub is : IsViewOf g view
  pub done : (q : ℕ) → q < n → P q (order_in view q)

pub none_written : (g : Graph) (P : ℕ → Option Side → Type 0) (view : OrientedGraph) → IsViewOf g view → IsWrittenTo g P 0 view
none_written g P view is = record { is = is; done = λ q h. absurd (omega (arith, h)) }

pub next_written : (g : Graph) (P : ℕ → Option Side → Type 0) (n : ℕ) (view new : OrientedGraph) (side : Option Side) → n < length g.pairs → P n side → new ≡ record { graph = view.graph; sides = set view.sides n side } → IsWrittenTo g P n view → IsWrittenTo g P (n + 1) new
next_written g P n view new side lt here e w = subst (λ (v : OrientedGraph). IsWrittenTo g P (n + 1) v) (sym e) (record { is = record { graph = w.is.graph; sides = length-set view.sides n side ∙ w.is.sides }; done = done })
  where
    done : (q : ℕ) → q < n + 1 → P q (get_or (set view.sides n side) q None)
    done q less = go (cases_eq q n)
      where
        go : (q ≡ n) ⊎ (q ≢ n) → P q (get_or (set view.sides n side) q None)
        go (inl same) = subst (λ (m : ℕ). P m (get_or (set view.sides n side) m None)) (sym same) (subst (λ (o : Option Side). P n o) (sym (get_or-set_same view.sides n side None (omega (arith, lt, w.is.sides)))) here)
        go (inr ne) = subst (λ (o : Option Side). P q o) (sym (get_or-set_other view.sides n q side None ne)) (w.done q (omega (arith, less, ne)))

-- past the pairs a view has no side
pub view_past : (g : Graph) (view : OrientedGraph) → IsViewOf g view → (q : ℕ) → length g.pairs ≤ q → order_in view q ≡ None
view_past g view is q le = get_or_past view.sides q None (omega (arith, le, is.sides))

-- where all pairs have the sides of an order, and it has none past them, the view has that order
pub view_is : (g : Graph) (order : ℕ → Option Side) (n : ℕ) (view : OrientedGraph) → length g.pairs ≤ n → ((q : ℕ) → length g.pairs ≤ q → order q ≡ None) → IsWrittenTo g (λ q o. o ≡ order q) n view → (q : ℕ) → order_in view q ≡ order q
view_is g order n view all past w q = go (cases_lt q n)
  where
    go : (q < n) ⊎ (n ≤ q) → order_in view q ≡ order q
    go (inl lt) = w.done q lt
    go (inr le) = view_past g view w.is q (omega (arith, all, le)) ∙ sym (past q (omega (arith, all, le)))

-- a pair has its side in the candidate
abbrev pub HasCandidateSide : Graph → FleetState → (ℕ → Option Side) → ℕ → Option Side → Type 0
HasCandidateSide g x given q o = (side : Side) × (o ≡ Some side) × IsCandidateSide g x given q side

-- what holds of every error holds where there is one
where_err : {A E : Type 0} (P : Type 0) (r : Result A E) → IsErr r → OnErr r P → P
where_err P (Ok a) e h = absurd (let z = e in cc)
where_err P (Err x) e h = h

-- one pair of a view gets a side
module _ (g : Graph) (x : FleetState) (ds : List Given) (q : PairId) (side : Side) (free : IsFree g x ds q.0) (view new : OrientedGraph) (is : IsViewOf g view) (each : (r : ℕ) → order_in view r ≡ order_on g x ds r) (e : new ≡ record { graph = view.graph; sides = set view.sides q.0 (Some side) }) where
  pub set_view : IsViewOf g new
  set_view = subst (λ (v : OrientedGraph). IsViewOf g v) (sym e) (record { graph = is.graph; sides = length-set view.sides q.0 (Some side) ∙ is.sides })

  set_order : order_in new ≡ order_on g x (given_to q side ∷ ds)
  set_order = ap order_in e ∙ one_order (λ r. get_or (set view.sides q.0 (Some side)) r None) (order_on g x (given_to q side ∷ ds)) (set_decided g x view.sides ds q side is.sides free each)

  -- a cycle of the view is one of the decisions with one more
  pub cycle_found : {A E : Type 0} (result : Result A E) (cycle : List PairId) → IsCyclic g (order_on g x (given_to q side ∷ ds)) → IsErr result ↔ IsCyclic new.graph (order_in new) → OnErr result (IsCycle new.graph (order_in new) cycle) → IsCycle g (order_on g x (given_to q side ∷ ds)) cycle
  cycle_found result cycle cyclic exactly found =
      subst (λ (o : ℕ → Option Side). IsCycle g o cycle) set_order (subst (λ (h : Graph). IsCycle h (order_in new) cycle) set_view.graph
      (where_err (IsCycle new.graph (order_in new) cycle) result (exactly.1 (subst (λ (h : Graph). IsCyclic h (order_in new)) (sym set_view.graph) (subst (λ (o : ℕ → Option Side). IsCyclic g o) (sym set_order) cyclic))) found))

-- a view without sides is one of its graph
pub oriented : (g : Graph) (view : OrientedGraph) → view ≡ record { graph = g; sides = undecided g } → IsViewOf g view
oriented g view e = subst (λ (v : OrientedGraph). IsViewOf g v) (sym e) (record { graph = refl; sides = length-replicate (length g.pairs) None })
