-- The order that is chosen after a delay, and what shows that it is worth its cost.
use Rattle.std.specs.Prelude.{ℕ, ◌≡◌, ◌≢◌, ◌≤◌, ◌<◌, List, [], map, length, Option, Contains}
use Rattle.std.specs.List.Sorted.{IsStrictlyIncreasing}
use Rattle.fleet_base.specs.declared.geometry.Visit.{Visit}
use Rattle.fleet_base.specs.declared.order.PairId.{PairId}
use Rattle.fleet_base.specs.declared.order.Side.{Side}
use Rattle.fleet_base.specs.Order.{Graph, order_of, turned}
use Rattle.fleet_base.specs.State.{FleetState, order_at}
use Rattle.fleet_base.specs.Schedule.{IsLawful, IsCost, end_sum_of}
use Rattle.cert_tree.specs.declared.node.Node.{Node}
use Rattle.cert_tree.specs.declared.node.Node.TheVariants.{Branch, Force, Cyclic, Bound, OpenLeaf}
use Rattle.cert_tree.specs.Decisions.{Decision}
use Rattle.cert_tree.specs.Trees.{Tree, nodes_of, EachNode, IsOptimalTree, IsSpentTree, branch_count}
use Rattle.order_choice.specs.declared.outcome.Outcome.{Outcome}
use Rattle.order_choice.specs.declared.outcome.Outcome.TheVariants.{Optimal, Spent}
use Rattle.order_choice.specs.Candidates.{IsNoCheaper}
use Rattle.cert_tree.specs.GroupRules.{IsGroupedTree}

-- at each Branch and each open leaf the candidate is no cheaper than the cost
abbrev pub IsWeighed : Graph → FleetState → ℕ → List Decision → Node → Type 0
IsWeighed g x cost way (Branch q) = IsNoCheaper g x cost way
IsWeighed g x cost way (Force q side cycle) = Unit {0}
IsWeighed g x cost way (Cyclic cycle) = Unit {0}
IsWeighed g x cost way (Bound paths) = Unit {0}
IsWeighed g x cost way (OpenLeaf least) = IsNoCheaper g x cost way

-- no lawful schedule is cheaper, and the certificate is an optimal tree of at most so many branches
pub record IsOptimalChoice (g : Graph) (x : FleetState) (budget cost : ℕ) (cert : List Node) : Type 0 where
  pub bound : (s : Visit → ℕ) → IsLawful g x s → cost ≤ end_sum_of g s
  pub tree : Tree
  pub nodes : cert ≡ nodes_of tree
  pub right : IsOptimalTree g x cost tree
  pub branches : branch_count tree ≤ budget

-- the certificate is a spent tree that keeps the rule on groups, and no candidate on its ways is cheaper
pub record IsSpentChoice (g : Graph) (x : FleetState) (budget cost least : ℕ) (cert : List Node) : Type 0 where
  pub tree : Tree
  pub nodes : cert ≡ nodes_of tree
  pub right : IsSpentTree g x cost least budget tree
  pub grouped : IsGroupedTree g x tree
  pub weighed : EachNode (IsWeighed g x cost) [] tree

-- what the outcome shows of a cost
abbrev pub IsShown : Graph → FleetState → ℕ → ℕ → Outcome → Type 0
IsShown g x budget cost (Optimal cert) = IsOptimalChoice g x budget cost cert
IsShown g x budget cost (Spent cert least) = IsSpentChoice g x budget cost least cert

-- the certificate of an outcome
abbrev pub cert_of : Outcome → List Node
cert_of (Optimal cert) = cert
cert_of (Spent cert least) = cert

-- the order has this cost, which is no more than that of the state's order, and the outcome shows what is known of it
pub record IsChosen (g : Graph) (x : FleetState) (budget : ℕ) (order : ℕ → Option Side) (cost : ℕ) (outcome : Outcome) : Type 0 where
  pub costs : IsCost g x order cost
  pub no_dearer : (old : ℕ) → IsCost g x (order_at g x) old → cost ≤ old
  pub shown : IsShown g x budget cost outcome

-- so it is with the order of the state after these pairs are switched
abbrev pub Choice : Graph → FleetState → ℕ → List PairId → ℕ → Outcome → Type 0
Choice g x budget switched cost outcome = IsChosen g x budget (order_of (turned x.sides switched)) cost outcome

-- the switched pairs of an order: those whose sides are not the state's, ascending
pub record AreSwitches (g : Graph) (x : FleetState) (order : ℕ → Option Side) (switched : List PairId) : Type 0 where
  pub ascending : IsStrictlyIncreasing (map (λ q. q.0) switched)
  pub differ : (q : PairId) → Contains switched q → (q.0 < length g.pairs) × (order q.0 ≢ order_at g x q.0)
  pub each : (q : PairId) → order q.0 ≢ order_at g x q.0 → Contains switched q
