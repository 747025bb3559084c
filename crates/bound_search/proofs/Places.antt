-- Places on a line, and the ways that lead to them.
use Rattle.std.proofs.Common.{◌≡◌, ◌+◌, List, [], ◌∷◌, ◌++◌, refl, sym, ap, ◌∙◌, subst, arith, length}
use Rattle.std.proofs.lemmas.List.{map-append}
use Rattle.cert_tree.specs.Decisions.{Decision}
use Rattle.order_choice.specs.declared.made.MadeNode.{MadeNode}
use Rattle.order_choice.specs.Searching.{forced_on, ways_beyond, ways_past, EachOnLine}
use Rattle.search_line.specs.Lines.{Numbered, nodes_on}

-- the ways behind more nodes
pub past_more : (front back : List MadeNode) (ways : List (List Decision)) → ways_past (front ++ back) ways ≡ ways_past back (ways_past front ways)
past_more [] back ways = refl
past_more (n ∷ front) [] [] = refl
past_more (n ∷ front) (m ∷ back) [] = refl
past_more (n ∷ front) back (way ∷ ways) = past_more front back (ways_beyond n.stand (forced_on n.forced way) ways)

-- what each node of a line meets, those behind some nodes meet
pub rest_meets : (meets : List Decision → MadeNode → Type 0) (front back : List MadeNode) (ways : List (List Decision)) → EachOnLine meets (front ++ back) ways → EachOnLine meets back (ways_past front ways)
rest_meets meets [] back ways e = e
rest_meets meets (n ∷ front) back [] e = absurd e
rest_meets meets (n ∷ front) back (way ∷ ways) e = rest_meets meets front back (ways_beyond n.stand (forced_on n.forced way) ways) e.1

-- a way leads to the first node of a line
first_way : (meets : List Decision → MadeNode → Type 0) (n : MadeNode) (line : List MadeNode) (ways : List (List Decision)) → EachOnLine meets (n ∷ line) ways → (way : List Decision) × (more : List (List Decision)) × (ways ≡ way ∷ more)
first_way meets n line [] e = absurd e
first_way meets n line (way ∷ ways) e = (way, ways, refl)

pub nodes-append : (front back : List Numbered) → nodes_on (front ++ back) ≡ nodes_on front ++ nodes_on back
nodes-append front back = map-append (λ (n : Numbered). n.node) front back

-- so one leads to each
pub way_to : (meets : List Decision → MadeNode → Type 0) (line front back : List Numbered) (n : Numbered) → line ≡ front ++ n ∷ back → EachOnLine meets (nodes_on line) ([] ∷ [])
    → (way : List Decision) × (more : List (List Decision)) × (ways_past (nodes_on front) ([] ∷ []) ≡ way ∷ more)
way_to meets line front back n place e =
    first_way meets n.node (nodes_on back) (ways_past (nodes_on front) ([] ∷ [])) (rest_meets meets (nodes_on front) (nodes_on (n ∷ back)) ([] ∷ []) on_front)
  where
    on_front : EachOnLine meets (nodes_on front ++ nodes_on (n ∷ back)) ([] ∷ [])
    on_front = subst (λ (l : List MadeNode). EachOnLine meets l ([] ∷ [])) (ap nodes_on place ∙ nodes-append front (n ∷ back)) e

-- no way is left behind the last one
pub none_left : (meets : List Decision → MadeNode → Type 0) (line : List Numbered) → EachOnLine meets (nodes_on line) ([] ∷ []) → ways_past (nodes_on line) ([] ∷ []) ≡ []
none_left meets line e = rest_meets meets (nodes_on line) [] ([] ∷ []) (subst (λ (l : List MadeNode). EachOnLine meets l ([] ∷ [])) (sym (at_end (nodes_on line))) e)
  where
    at_end : (ns : List MadeNode) → ns ++ [] ≡ ns
    at_end [] = refl
    at_end (m ∷ ns) = ap (λ (l : List MadeNode). m ∷ l) (at_end ns)

-- the ways behind one node more
pub past_one : (front : List Numbered) (n : Numbered) (way : List Decision) (more : List (List Decision)) → ways_past (nodes_on front) ([] ∷ []) ≡ way ∷ more → ways_past (nodes_on (front ++ n ∷ [])) ([] ∷ []) ≡ ways_beyond n.node.stand (forced_on n.node.forced way) more
past_one front n way more e =
    ap (λ (l : List MadeNode). ways_past l ([] ∷ [])) (nodes-append front (n ∷ []))
    ∙ past_more (nodes_on front) (n.node ∷ []) ([] ∷ [])
    ∙ ap (λ (ws : List (List Decision)). ways_past (n.node ∷ []) ws) e

-- the same place, the node being the last one in front
pub moved_on : {X : Type 0} (front back : List X) (n : X) → front ++ n ∷ back ≡ (front ++ n ∷ []) ++ back
moved_on [] back n = refl
moved_on (m ∷ front) back n = ap (λ l. m ∷ l) (moved_on front back n)

pub longer_front : {X : Type 0} (front : List X) (n : X) → length (front ++ n ∷ []) ≡ length front + 1
longer_front [] n = omega arith
longer_front (m ∷ front) n = let h = longer_front front n in omega arith
