-- A line of nodes, of which one is expanded: the tree stays one, and what is said of each node goes on.
use Rattle.std.proofs.Common.{ℕ, ◌≡◌, ◌+◌, ◌≤◌, List, [], ◌∷◌, ◌++◌, refl, subst, arith}
use Rattle.fleet_base.specs.declared.order.PairId.{PairId}
use Rattle.fleet_base.specs.declared.order.Side.TheVariants.{Lower, Higher}
use Rattle.fleet_base.specs.Order.{Graph}
use Rattle.fleet_base.specs.State.{FleetState}
use Rattle.cert_tree.specs.Decisions.{Decision}
use Rattle.cert_tree.specs.Trees.{branch_to}
use Rattle.order_choice.specs.Candidates.{IsNoCheaper}
use Rattle.order_choice.specs.declared.made.Forcing.{Forcing}
use Rattle.order_choice.specs.declared.made.Stand.{Stand}
use Rattle.order_choice.specs.declared.made.MadeNode.{MadeNode}
use Rattle.order_choice.specs.Searching.{IsNew, forced_on, ways_beyond, ways_past, EachOnLine, IsMadeDear, IsWeighedAs, expanded_in}
use Rattle.order_choice.specs.declared.made.Stand.TheVariants.{Round, Waiting, Expanded}
use Rattle.order_choice.specs.Searching.IsNew.{new_round, new_waiting}

abbrev pub node : List Forcing → Stand → MadeNode
node forced stand = record { forced = forced; stand = stand }

-- the node is expanded and its two children stand behind it on the line; every other node has the way that it had
pub spliced : (old new : List Decision → MadeNode → Type 0) (front back : List MadeNode) (forced lower higher : List Forcing) (cost : ℕ) (q : PairId) (low high : Stand) (ways : List (List Decision))
    → ((way : List Decision) (n : MadeNode) → old way n → new way n)
    → ((way : List Decision) (more : List (List Decision)) → ways_past front ways ≡ way ∷ more → old way (node forced (Waiting cost)) → new way (node forced (Expanded cost q)) × new (branch_to q Lower ∷ forced_on forced way) (node lower low) × new (branch_to q Higher ∷ forced_on forced way) (node higher high))
    → IsNew low → IsNew high
    → EachOnLine old (front ++ node forced (Waiting cost) ∷ back) ways
    → EachOnLine new (front ++ node forced (Expanded cost q) ∷ node lower low ∷ node higher high ∷ back) ways
spliced old new [] back forced lower higher cost q low high [] keep made a b e = e
spliced old new [] back forced lower higher cost q low high (way ∷ ways) keep made a b e =
    let m = made way ways refl e.0 in
    let rest = behind back (forced_on higher (branch_to q Higher ∷ forced_on forced way)) ways high b (kept back ways e.1) in
    (m.0, (m.1, behind (node higher high ∷ back) (forced_on lower (branch_to q Lower ∷ forced_on forced way)) ((branch_to q Higher ∷ forced_on forced way) ∷ ways) low a (m.2, rest)))
  where
    kept : (line : List MadeNode) (ws : List (List Decision)) → EachOnLine old line ws → EachOnLine new line ws
    kept [] ws h = h
    kept (n ∷ line) [] h = h
    kept (n ∷ line) (w ∷ ws) h = (keep w n h.0, kept line (ways_beyond n.stand (forced_on n.forced w) ws) h.1)

    behind : (line : List MadeNode) (w : List Decision) (ws : List (List Decision)) (stand : Stand) → IsNew stand → EachOnLine new line ws → EachOnLine new line (ways_beyond stand w ws)
    behind line w ws _ (new_round cycle) h = h
    behind line w ws _ (new_waiting c) h = h
spliced old new (n ∷ front) back forced lower higher cost q low high [] keep made a b e = e
spliced old new (n ∷ front) back forced lower higher cost q low high (way ∷ ways) keep made a b e =
    (keep way n e.0, spliced old new front back forced lower higher cost q low high (ways_beyond n.stand (forced_on n.forced way) ways) keep made a b e.1)

-- one node more is expanded
pub one_more_expanded : (front back : List MadeNode) (forced lower higher : List Forcing) (cost : ℕ) (q : PairId) (low high : Stand) → IsNew low → IsNew high
    → expanded_in (front ++ node forced (Expanded cost q) ∷ node lower low ∷ node higher high ∷ back) ≡ expanded_in (front ++ node forced (Waiting cost) ∷ back) + 1
one_more_expanded [] back forced lower higher cost q _ _ (new_round c) (new_round d) = omega arith
one_more_expanded [] back forced lower higher cost q _ _ (new_round c) (new_waiting d) = omega arith
one_more_expanded [] back forced lower higher cost q _ _ (new_waiting c) (new_round d) = omega arith
one_more_expanded [] back forced lower higher cost q _ _ (new_waiting c) (new_waiting d) = omega arith
one_more_expanded (n ∷ front) back forced lower higher cost q low high a b = omega (arith, one_more_expanded front back forced lower higher cost q low high a b)

-- a candidate that is no cheaper than one cost is no cheaper than a smaller one
pub dear_below : (g : Graph) (x : FleetState) (old new : ℕ) (way : List Decision) (n : MadeNode) → new ≤ old → IsMadeDear g x old way n → IsMadeDear g x new way n
dear_below g x old new way n le = go n.stand
  where
    less : IsNoCheaper g x old (forced_on n.forced way) → IsNoCheaper g x new (forced_on n.forced way)
    less h s order c least is sound k = let m = h s order c least is sound k in omega (arith, m, le)

    go : (stand : Stand) → IsWeighedAs g x old (forced_on n.forced way) stand → IsWeighedAs g x new (forced_on n.forced way) stand
    go (Round cycle) h = h
    go (Waiting cost) h = less h
    go (Expanded cost q) h = less h

-- what a node meets at its place on the line
pub met : (meets : List Decision → MadeNode → Type 0) (front back : List MadeNode) (n : MadeNode) (ways : List (List Decision)) (way : List Decision) (more : List (List Decision)) → ways_past front ways ≡ way ∷ more → EachOnLine meets (front ++ n ∷ back) ways → meets way n
met meets [] back n [] way more w e = cc
met meets [] back n (v ∷ ways) way more w e = let same : v ≡ way = cc in subst (λ (z : List Decision). meets z n) same e.0
met meets (m ∷ front) back n [] way more w e = cc
met meets (m ∷ front) back n (v ∷ ways) way more w e = met meets front back n (ways_beyond m.stand (forced_on m.forced v) ways) way more w e.1
