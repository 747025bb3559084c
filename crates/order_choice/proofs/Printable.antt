-- What is written of a line can be printed.
use Rattle.std.proofs.Common.{ℕ, ◌≡◌, ◌<◌, ◌≤◌, List, [], ◌∷◌, Option, sym, ap, ◌∙◌, arith, length}
use Rattle.std.specs.Prelude.{All}
use Rattle.std.proofs.lemmas.List.Elements.{All-nil, All-cons}
use Rattle.fleet_base.specs.declared.geometry.Visit.{Visit}
use Rattle.fleet_base.specs.declared.order.PairId.{PairId}
use Rattle.fleet_base.specs.declared.order.Pair.{Pair}
use Rattle.fleet_base.specs.declared.order.Side.{Side}
use Rattle.fleet_base.specs.declared.order.Side.TheVariants.{Lower, Higher}
use Rattle.fleet_base.specs.Order.{Graph, IsGraph, IsCycle, next_visit, first_visit, second_visit}
use Rattle.fleet_base.specs.State.{FleetState}
use Rattle.fleet_base.proofs.Edges.{edge_unique}
use Rattle.cert_tree.specs.declared.node.Node.{Node}
use Rattle.cert_tree.specs.CertText.{IsWritten}
use Rattle.cert_tree.specs.Decisions.{Decision, order_on}
use Rattle.cert_tree.specs.Preorder.{ways_after, EachListed}
use Rattle.order_choice.specs.declared.made.MadeNode.{MadeNode}
use Rattle.order_choice.specs.Searching.{EachOnLine, IsMadeRight, IsMadeDear}
use Rattle.order_choice.specs.Writing.{IsWrittenOf}
use Rattle.order_choice.proofs.Written.{written_meets}

-- the two robots of a pair differ
two_robots : (pair : Pair) (side : Side) → pair.lower.robot < pair.higher.robot → (second_visit pair side).robot ≡ (next_visit (first_visit pair side)).robot → ⊥
two_robots pair Lower lt e = omega (arith, lt, e)
two_robots pair Higher lt e = omega (arith, lt, e)

-- a cycle has at least two pairs
pub cycle_of_two : (g : Graph) (order : ℕ → Option Side) (cycle : List PairId) → IsGraph g → IsCycle g order cycle → 2 ≤ length cycle
cycle_of_two g order [] graph c = absurd c
cycle_of_two g order (q ∷ []) graph c =
    let same = (edge_unique g order q.0 c.tail c.head c.next_tail c.next_head c.edge c.next_edge).0 in
    absurd (two_robots c.edge.pair c.edge.side (graph.robots q.0 c.edge.pair c.edge.listed)
    (ap (λ (v : Visit). v.robot) (sym c.edge.head) ∙ c.robot ∙ ap (λ (v : Visit). v.robot) (sym same) ∙ ap (λ (v : Visit). v.robot) c.edge.tail))
cycle_of_two g order (q ∷ r ∷ rest) graph c = omega arith

-- what each node listed meets whatever the way is, all meet
pub all_listed : (P : Node → Type 0) (nodes : List Node) (ways : List (List Decision)) → EachListed (λ way n. P n) nodes ways → All P nodes
all_listed P [] ways e = All-nil P
all_listed P (n ∷ nodes) [] e = absurd e
all_listed P (n ∷ nodes) (way ∷ ways) e = All-cons P n nodes e.0 (all_listed P nodes (ways_after n (way ∷ ways)) e.1)

pub written_printable : (g : Graph) (x : FleetState) (best : ℕ) (Left Branched : ℕ → Type 0) (line : List MadeNode) (nodes : List Node) → IsGraph g → EachOnLine (IsMadeRight g x) line ([] ∷ []) → EachOnLine (IsMadeDear g x best) line ([] ∷ [])
    → IsWrittenOf g x best Left Branched line ([] ∷ []) nodes → All IsWritten nodes
written_printable g x best Left Branched line nodes graph right dear w =
    all_listed IsWritten nodes ([] ∷ [])
    (written_meets g x best Left Branched (λ way n. IsWritten n) (λ way f free mates s. omega arith) (λ way cycle c. cycle_of_two g (order_on g x way) cycle graph c) (λ way paths b p. p) (λ way cost r d lt left. tt) (λ way cost q r d lt b. tt)
    line ([] ∷ []) nodes w right dear)
