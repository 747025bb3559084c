-- What is written of a line of nodes is a tree, and what each node made meets its nodes meet.
use Rattle.std.proofs.Common.{ℕ, suc, zero, ◌≡◌, ◌<◌, ◌≤◌, List, [], ◌∷◌, ◌++◌, Some, refl, ◌∙◌, arith, length}
use Rattle.fleet_base.specs.declared.order.PairId.{PairId}
use Rattle.fleet_base.specs.declared.order.Side.TheVariants.{Lower, Higher}
use Rattle.fleet_base.specs.Order.{Graph, IsCycle}
use Rattle.fleet_base.specs.State.{FleetState}
use Rattle.cert_tree.specs.declared.node.CertPath.{CertPath}
use Rattle.cert_tree.specs.declared.node.Node.{Node}
use Rattle.cert_tree.specs.declared.node.Node.TheVariants.{Branch, Force, Cyclic, Bound, OpenLeaf}
use Rattle.cert_tree.specs.CertText.{IsWritten}
use Rattle.cert_tree.specs.Decisions.{Decision, order_on, IsFree}
use Rattle.cert_tree.specs.Trees.{branch_to, force_to, IsBound}
use Rattle.cert_tree.specs.Preorder.{ways_left, branches_in, EachListed}
use Rattle.fleet_base.specs.Groups.{AreMates}
use Rattle.order_choice.specs.Candidates.{IsNoCheaper}
use Rattle.order_choice.specs.declared.made.Forcing.{Forcing}
use Rattle.order_choice.specs.declared.made.Stand.{Stand}
use Rattle.order_choice.specs.declared.made.MadeNode.{MadeNode}
use Rattle.order_choice.specs.Searching.{forced_on, ways_beyond, EachOnLine, AreForced, IsRelaxed, StandsSo, IsMadeRight, IsMadeDear, expanded_in}
use Rattle.order_choice.specs.declared.made.Stand.TheVariants.{Round, Waiting, Expanded}
use Rattle.order_choice.specs.Writing.{with_children, behind, forced_nodes, IsWrittenOf}
use Rattle.order_choice.specs.Writing.IsWrittenOf.{ended, as_cyclic, as_open, as_bound, as_cut, as_branch}

-- behind the first trees of a line are those to which the other ways lead
pub past : (meets : List Decision → MadeNode → Type 0) (line : List MadeNode) (front ways : List (List Decision)) → EachOnLine meets line (front ++ ways) → EachOnLine meets (behind (length front) line) ways
past meets line [] ways e = e
past meets [] (w ∷ ws) ways e = cc
past meets (n ∷ line) (w ∷ ws) ways e = go n.stand (λ front h. past meets line front ways h) e.1
  where
    go : (stand : Stand) → ((front : List (List Decision)) → EachOnLine meets line (front ++ ways) → EachOnLine meets (behind (length front) line) ways)
        → EachOnLine meets line (ways_beyond stand (forced_on n.forced w) (ws ++ ways)) → EachOnLine meets (behind (with_children stand (length ws)) line) ways
    go (Round cycle) on h = on ws h
    go (Waiting cost) on h = on ws h
    go (Expanded cost q) on h = on ((branch_to q Lower ∷ forced_on n.forced w) ∷ (branch_to q Higher ∷ forced_on n.forced w) ∷ ws) h

-- the Force nodes of a node lead on
pub forced_through : (meets : List Decision → Node → Type 0) (g : Graph) (x : FleetState) (on_force : (way : List Decision) (f : Forcing) → IsFree g x way f.pair.0 → AreMates g f.mate.0 f.pair.0 → order_on g x way f.mate.0 ≡ Some f.side → meets way (Force f.pair f.side (f.mate ∷ f.pair ∷ [])))
    (fs : List Forcing) (way : List Decision) (ways : List (List Decision)) (rest : List Node) → AreForced g x fs way → EachListed meets rest (forced_on fs way ∷ ways) → EachListed meets (forced_nodes fs ++ rest) (way ∷ ways)
forced_through meets g x on_force [] way ways rest a e = e
forced_through meets g x on_force (f ∷ fs) way ways rest a e = (on_force way f a.0 a.1 a.2, forced_through meets g x on_force fs (force_to f.pair f.side ∷ way) ways rest a.3 e)

pub forced_left : (fs : List Forcing) (way : List Decision) (ways : List (List Decision)) (rest : List Node) → ways_left (forced_nodes fs ++ rest) (way ∷ ways) ≡ ways_left rest (forced_on fs way ∷ ways)
forced_left [] way ways rest = refl
forced_left (f ∷ fs) way ways rest = forced_left fs (force_to f.pair f.side ∷ way) ways rest

module _ (g : Graph) (x : FleetState) (best : ℕ) (Left Branched : ℕ → Type 0) (meets : List Decision → Node → Type 0)
    (on_force : (way : List Decision) (f : Forcing) → IsFree g x way f.pair.0 → AreMates g f.mate.0 f.pair.0 → order_on g x way f.mate.0 ≡ Some f.side → meets way (Force f.pair f.side (f.mate ∷ f.pair ∷ [])))
    (on_cyclic : (way : List Decision) (cycle : List PairId) → IsCycle g (order_on g x way) cycle → meets way (Cyclic cycle))
    (on_bound : (way : List Decision) (paths : List CertPath) → IsBound g x way best paths → IsWritten (Bound paths) → meets way (Bound paths))
    (on_open : (way : List Decision) (cost : ℕ) → IsRelaxed g x way cost → IsNoCheaper g x best way → cost < best → Left cost → meets way (OpenLeaf cost))
    (on_branch : (way : List Decision) (cost : ℕ) (q : PairId) → StandsSo g x way (Expanded cost q) → IsNoCheaper g x best way → cost < best → Branched cost → meets way (Branch q)) where
  -- each node that is written meets the rule
  pub written_meets : (line : List MadeNode) (ways : List (List Decision)) (nodes : List Node) → IsWrittenOf g x best Left Branched line ways nodes
      → EachOnLine (IsMadeRight g x) line ways → EachOnLine (IsMadeDear g x best) line ways → EachListed meets nodes ways
  written_meets _ _ _ ended r d = tt
  written_meets _ _ _ (as_cyclic forced cycle line way ways nodes w) r d =
      forced_through meets g x on_force forced way ways (Cyclic cycle ∷ nodes) r.0.0 (on_cyclic (forced_on forced way) cycle r.0.1, written_meets line ways nodes w r.1 d.1)
  written_meets _ _ _ (as_open forced cost line way ways nodes lt left w) r d =
      forced_through meets g x on_force forced way ways (OpenLeaf cost ∷ nodes) r.0.0 (on_open (forced_on forced way) cost r.0.1 d.0 lt left, written_meets line ways nodes w r.1 d.1)
  written_meets _ _ _ (as_bound forced cost line way ways paths nodes le b p w) r d =
      forced_through meets g x on_force forced way ways (Bound paths ∷ nodes) r.0.0 (on_bound (forced_on forced way) paths b p, written_meets line ways nodes w r.1 d.1)
  written_meets _ _ _ (as_cut forced cost q line way ways paths nodes le b p w) r d =
      forced_through meets g x on_force forced way ways (Bound paths ∷ nodes) r.0.0 (
        on_bound (forced_on forced way) paths b p,
        written_meets (behind 2 line) ways nodes w
            (past (IsMadeRight g x) line ((branch_to q Lower ∷ forced_on forced way) ∷ (branch_to q Higher ∷ forced_on forced way) ∷ []) ways r.1)
            (past (IsMadeDear g x best) line ((branch_to q Lower ∷ forced_on forced way) ∷ (branch_to q Higher ∷ forced_on forced way) ∷ []) ways d.1),
      )
  written_meets _ _ _ (as_branch forced cost q line way ways nodes lt branched w) r d =
      forced_through meets g x on_force forced way ways (Branch q ∷ nodes) r.0.0
      (on_branch (forced_on forced way) cost q r.0.1 d.0 lt branched, written_meets line ((branch_to q Lower ∷ forced_on forced way) ∷ (branch_to q Higher ∷ forced_on forced way) ∷ ways) nodes w r.1 d.1)

-- and the last one ends the tree
pub written_ends : (g : Graph) (x : FleetState) (best : ℕ) (Left Branched : ℕ → Type 0) (line : List MadeNode) (ways : List (List Decision)) (nodes : List Node) → IsWrittenOf g x best Left Branched line ways nodes → ways_left nodes ways ≡ []
written_ends g x best Left Branched _ _ _ ended = refl
written_ends g x best Left Branched _ _ _ (as_cyclic forced cycle line way ways nodes w) = forced_left forced way ways (Cyclic cycle ∷ nodes) ∙ written_ends g x best Left Branched line ways nodes w
written_ends g x best Left Branched _ _ _ (as_open forced cost line way ways nodes lt left w) = forced_left forced way ways (OpenLeaf cost ∷ nodes) ∙ written_ends g x best Left Branched line ways nodes w
written_ends g x best Left Branched _ _ _ (as_bound forced cost line way ways paths nodes le b p w) = forced_left forced way ways (Bound paths ∷ nodes) ∙ written_ends g x best Left Branched line ways nodes w
written_ends g x best Left Branched _ _ _ (as_cut forced cost q line way ways paths nodes le b p w) = forced_left forced way ways (Bound paths ∷ nodes) ∙ written_ends g x best Left Branched (behind 2 line) ways nodes w
written_ends g x best Left Branched _ _ _ (as_branch forced cost q line way ways nodes lt branched w) =
    forced_left forced way ways (Branch q ∷ nodes) ∙ written_ends g x best Left Branched line ((branch_to q Lower ∷ forced_on forced way) ∷ (branch_to q Higher ∷ forced_on forced way) ∷ ways) nodes w

-- ---- how many branches are written

pub forced_branches : (fs : List Forcing) (rest : List Node) → branches_in (forced_nodes fs ++ rest) ≡ branches_in rest
forced_branches [] rest = refl
forced_branches (f ∷ fs) rest = forced_branches fs rest

pub fewer_behind : (line : List MadeNode) (k : ℕ) → expanded_in (behind k line) ≤ expanded_in line
fewer_behind line zero = omega arith
fewer_behind [] (suc k) = omega arith
fewer_behind (n ∷ line) (suc k) = let h = fewer_behind line (with_children n.stand k) in omega (arith, h)

-- no more than were expanded
pub written_branches : (g : Graph) (x : FleetState) (best : ℕ) (Left Branched : ℕ → Type 0) (line : List MadeNode) (ways : List (List Decision)) (nodes : List Node) → IsWrittenOf g x best Left Branched line ways nodes → branches_in nodes ≤ expanded_in line
written_branches g x best Left Branched _ _ _ ended = omega arith
written_branches g x best Left Branched _ _ _ (as_cyclic forced cycle line way ways nodes w) = let f = forced_branches forced (Cyclic cycle ∷ nodes) in let h = written_branches g x best Left Branched line ways nodes w in omega (arith, f, h)
written_branches g x best Left Branched _ _ _ (as_open forced cost line way ways nodes lt left w) = let f = forced_branches forced (OpenLeaf cost ∷ nodes) in let h = written_branches g x best Left Branched line ways nodes w in omega (arith, f, h)
written_branches g x best Left Branched _ _ _ (as_bound forced cost line way ways paths nodes le b p w) = let f = forced_branches forced (Bound paths ∷ nodes) in let h = written_branches g x best Left Branched line ways nodes w in omega (arith, f, h)
written_branches g x best Left Branched _ _ _ (as_cut forced cost q line way ways paths nodes le b p w) =
    let f = forced_branches forced (Bound paths ∷ nodes) in
    let h = written_branches g x best Left Branched (behind 2 line) ways nodes w in
    let z = fewer_behind line 2 in
    omega (arith, f, h, z)
written_branches g x best Left Branched _ _ _ (as_branch forced cost q line way ways nodes lt branched w) =
    let f = forced_branches forced (Branch q ∷ nodes) in
    let h = written_branches g x best Left Branched line ((branch_to q Lower ∷ forced_on forced way) ∷ (branch_to q Higher ∷ forced_on forced way) ∷ ways) nodes w in
    omega (arith, f, h)
