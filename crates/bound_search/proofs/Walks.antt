-- A certificate that is written node by node.
use Rattle.std.proofs.Common.{ℕ, suc, zero, ◌≡◌, ◌+◌, ◌*◌, ◌<◌, ◌≤◌, List, [], ◌∷◌, ◌++◌, Some, None, refl, sym, ap, ◌∙◌, subst, arith, length, get_or, take, drop, append_assoc, length-append}
use Rattle.std.proofs.lemmas.List.{append-nil, take_more}
use Rattle.fleet_base.specs.Order.{Graph}
use Rattle.fleet_base.specs.State.{FleetState}
use Rattle.cert_tree.specs.declared.node.Node.{Node}
use Rattle.cert_tree.specs.declared.node.Node.TheVariants.{Force}
use Rattle.cert_tree.specs.Decisions.{Decision}
use Rattle.order_choice.specs.declared.made.Forcing.{Forcing}
use Rattle.order_choice.specs.declared.made.MadeNode.{MadeNode}
use Rattle.order_choice.specs.declared.made.Stand.{Stand}
use Rattle.order_choice.specs.declared.made.Stand.TheVariants.{Round, Waiting, Expanded}
use Rattle.order_choice.specs.Searching.{forced_on, ways_beyond, ways_past, EachOnLine}
use Rattle.order_choice.specs.Writing.{with_children, behind, forced_nodes, IsWrittenOf}
use Rattle.order_choice.specs.Writing.IsWrittenOf.{ended, as_cyclic, as_open, as_bound, as_cut, as_branch}
use Rattle.search_nodes.specs.Making.{Making}
use Rattle.search_line.specs.Lines.{Numbered, nodes_on, first_number, IsAt, IsOn}
use Rattle.bound_search.specs.declared.writing.Walk.{Walk}
use Rattle.bound_search.specs.Walking.{IsCertOf, IsWrittenAs, IsTaken, IsWalked}
use Rattle.bound_search.specs.Walking.IsWrittenAs.{round, left_open, branched, bound, cut}
use Rattle.bound_search.specs.Walking.IsTaken.{left_out, written}
use Rattle.bound_search.proofs.Places.{past_one, moved_on, longer_front, none_left, way_to}

-- trees that are left out behind a node are its own and those that were left out before
dropped : (stand : Stand) (k : ℕ) (way : List Decision) (more : List (List Decision)) → drop (with_children stand k) (ways_beyond stand way more) ≡ drop k more
dropped (Round cycle) k way more = refl
dropped (Waiting cost) k way more = refl
dropped (Expanded cost q) k way more = refl

-- a node is written of the first one of a line
one_written : (m : Making) (forced : List Forcing) (way : List Decision) (ways : List (List Decision)) (line : List MadeNode) (stand : Stand) (stood : Node) (k : ℕ) (more : List Node) → IsWrittenAs m.graph m.state m.cost (forced_on forced way) stand stood k
    → IsCertOf m (behind k line) (drop k (ways_beyond stand (forced_on forced way) ways)) more → IsCertOf m (record { forced = forced; stand = stand } ∷ line) (way ∷ ways) (forced_nodes forced ++ stood ∷ more)
one_written m forced way ways line _ _ _ more (round cycle) c = as_cyclic forced cycle line way ways more c
one_written m forced way ways line _ _ _ more (left_open cost lt) c = as_open forced cost line way ways more lt tt c
one_written m forced way ways line _ _ _ more (branched cost q lt) c = as_branch forced cost q line way ways more lt tt c
one_written m forced way ways line _ _ _ more (bound cost paths le b p) c = as_bound forced cost line way ways paths more le b p c
one_written m forced way ways line _ _ _ more (cut cost q paths le b p) c = as_cut forced cost q line way ways paths more le b p c

-- so far, and one node further: what is written behind it is written behind the nodes before
one_further : (m : Making) (node : MadeNode) (back : List MadeNode) (way : List Decision) (ways : List (List Decision)) (old new : List Node) (j k : ℕ) (after : List (List Decision)) → after ≡ ways_beyond node.stand (forced_on node.forced way) ways → IsTaken m node way old new j k
    → (line : List MadeNode) → ((more : List Node) → IsCertOf m (behind j (node ∷ back)) (drop j (way ∷ ways)) more → IsCertOf m line ([] ∷ []) (old ++ more))
    → (more : List Node) → IsCertOf m (behind k back) (drop k after) more → IsCertOf m line ([] ∷ []) (new ++ more)
one_further m node back way ways old new _ _ after e (left_out k same) line goes more c =
    subst (λ (l : List Node). IsCertOf m line ([] ∷ []) (l ++ more)) (sym same)
    (goes more (subst (λ (ws : List (List Decision)). IsCertOf m (behind (with_children node.stand k) back) ws more) (ap (λ (ws : List (List Decision)). drop (with_children node.stand k) ws) e ∙ dropped node.stand k (forced_on node.forced way) ways) c))
one_further m node back way ways old new _ _ after e (written stood k is same) line goes more c =
    subst (λ (l : List Node). IsCertOf m line ([] ∷ []) l) (sym joined)
    (goes (forced_nodes node.forced ++ stood ∷ more) (one_written m node.forced way ways back node.stand stood k more is (subst (λ (ws : List (List Decision)). IsCertOf m (behind k back) (drop k ws) more) e c)))
  where
    joined : new ++ more ≡ old ++ (forced_nodes node.forced ++ stood ∷ more)
    joined = ap (λ (l : List Node). l ++ more) same ∙ append_assoc (old ++ forced_nodes node.forced) (stood ∷ []) more ∙ append_assoc old (forced_nodes node.forced) (stood ∷ more)

-- nothing is written before the first node
pub walked_none : (m : Making) (line : List Numbered) (walk : Walk) → walk.next ≡ first_number line → walk.to_come ≡ length line → walk.left_out ≡ 0 → walk.cert ≡ [] → IsWalked m line walk
walked_none m line walk next to_come left none = record {
  front = [];
  back = line;
  place = refl;
  next = next;
  to_come = to_come;
  few = omega arith;
  goes_on = λ more c. subst (λ (l : List Node). IsCertOf m (nodes_on line) ([] ∷ []) (l ++ more)) (sym none) (subst (λ (k : ℕ). IsCertOf m (behind k (nodes_on line)) (drop k ([] ∷ [])) more) left c);
}

-- behind the last one all is written
pub walked_all : (m : Making) (line : List Numbered) (walk : Walk) (meets : List Decision → MadeNode → Type 0) → EachOnLine meets (nodes_on line) ([] ∷ []) → IsWalked m line walk → walk.next ≡ None → IsCertOf m (nodes_on line) ([] ∷ []) walk.cert
walked_all m line walk meets e w none = go w.back w.place (sym w.next ∙ none) w.goes_on
  where
    no_trees : (k : ℕ) → behind k [] ≡ []
    no_trees zero = refl
    no_trees (suc k) = refl

    no_ways : (k : ℕ) → drop {A = List Decision} k [] ≡ []
    no_ways zero = refl
    no_ways (suc k) = refl

    go : (back : List Numbered) → line ≡ w.front ++ back → first_number back ≡ None → ((more : List Node) → IsCertOf m (behind walk.left_out (nodes_on back)) (drop walk.left_out (ways_past (nodes_on w.front) ([] ∷ []))) more → IsCertOf m (nodes_on line) ([] ∷ []) (walk.cert ++ more)) → IsCertOf m (nodes_on line) ([] ∷ []) walk.cert
    go [] place ends goes =
        subst (λ (l : List Node). IsCertOf m (nodes_on line) ([] ∷ []) l) (append-nil walk.cert)
        (goes [] (subst (λ (ws : List (List Decision)). IsCertOf m (behind walk.left_out []) ws []) (sym behind_all) (subst (λ (l : List MadeNode). IsCertOf m l [] []) (sym (no_trees walk.left_out)) ended)))
      where
        whole : line ≡ w.front
        whole = place ∙ append-nil w.front

        behind_all : drop walk.left_out (ways_past (nodes_on w.front) ([] ∷ [])) ≡ []
        behind_all = ap (λ (ws : List (List Decision)). drop walk.left_out ws) (ap (λ (l : List Numbered). ways_past (nodes_on l) ([] ∷ [])) (sym whole) ∙ none_left meets line e) ∙ no_ways walk.left_out
    go (n ∷ back) place ends goes = cc

-- the node that comes next
pub record IsHere (m : Making) (line : List Numbered) (walk : Walk) (number : ℕ) : Type 0 where
  pub front : List Numbered
  pub node : MadeNode
  pub back : List Numbered
  pub way : List Decision
  pub ways : List (List Decision)
  pub place : line ≡ front ++ record { number = number; node = node } ∷ back
  pub past : ways_past (nodes_on front) ([] ∷ []) ≡ way ∷ ways
  pub to_come : walk.to_come ≡ suc (length back)
  pub few : walk.left_out ≤ 2 * length front
  pub goes_on : (more : List Node) → IsCertOf m (behind walk.left_out (node ∷ nodes_on back)) (drop walk.left_out (way ∷ ways)) more → IsCertOf m (nodes_on line) ([] ∷ []) (walk.cert ++ more)

pub here : (m : Making) (line : List Numbered) (walk : Walk) (number : ℕ) (meets : List Decision → MadeNode → Type 0) → EachOnLine meets (nodes_on line) ([] ∷ []) → IsWalked m line walk → walk.next ≡ Some number → IsHere m line walk number
here m line walk number meets e w next = go w.back w.place (sym w.next ∙ next) w.to_come w.goes_on
  where
    go : (back : List Numbered) → line ≡ w.front ++ back → first_number back ≡ Some number → walk.to_come ≡ length back
        → ((more : List Node) → IsCertOf m (behind walk.left_out (nodes_on back)) (drop walk.left_out (ways_past (nodes_on w.front) ([] ∷ []))) more → IsCertOf m (nodes_on line) ([] ∷ []) (walk.cert ++ more)) → IsHere m line walk number
    go [] place starts count goes = cc
    go (n ∷ back) place starts count goes =
        let at = way_to meets line w.front back n place e in
        let same : n.number ≡ number = cc in
        record {
          front = w.front;
          node = n.node;
          back = back;
          way = at.0;
          ways = at.1;
          place = place ∙ ap (λ (i : ℕ). w.front ++ record { number = i; node = n.node } ∷ back) same;
          past = at.2;
          to_come = count;
          few = w.few;
          goes_on = λ more c. goes more (subst (λ (ws : List (List Decision)). IsCertOf m (behind walk.left_out (n.node ∷ nodes_on back)) (drop walk.left_out ws) more) (sym at.2) c);
        }

pub is_on : (m : Making) (line : List Numbered) (walk : Walk) (number : ℕ) → IsHere m line walk number → IsOn line number
is_on m line walk number h = record { front = h.front; node = h.node; back = h.back; place = h.place }

pub is_at : (m : Making) (line : List Numbered) (walk : Walk) (number : ℕ) (h : IsHere m line walk number) → IsAt line number h.node h.way
is_at m line walk number h = record { front = h.front; back = h.back; more = h.ways; place = h.place; ways = h.past }

-- one node further
pub walked_more : (m : Making) (line : List Numbered) (old new : Walk) (number : ℕ) (h : IsHere m line old number) → IsTaken m h.node h.way old.cert new.cert old.left_out new.left_out
    → new.next ≡ first_number h.back → new.to_come + 1 ≡ old.to_come → IsWalked m line new
walked_more m line old new number h taken next less = record {
  front = h.front ++ n ∷ [];
  back = h.back;
  place = h.place ∙ moved_on h.front h.back n;
  next = next;
  to_come = omega (arith, less, h.to_come);
  few = let e = longer_front h.front n in let t = at_most_two taken in omega (arith, e, t, h.few);
  goes_on = one_further m h.node (nodes_on h.back) h.way h.ways old.cert new.cert old.left_out new.left_out _ (past_one h.front n h.way h.ways h.past) taken (nodes_on line) h.goes_on;
}
  where
    n : Numbered
    n = record { number = number; node = h.node }

    as_two : (stand : Stand) (stood : Node) (k : ℕ) → IsWrittenAs m.graph m.state m.cost (forced_on h.node.forced h.way) stand stood k → k ≤ 2
    as_two _ _ _ (round cycle) = omega arith
    as_two _ _ _ (left_open cost lt) = omega arith
    as_two _ _ _ (branched cost q lt) = omega arith
    as_two _ _ _ (bound cost paths le b p) = omega arith
    as_two _ _ _ (cut cost q paths le b p) = omega arith

    two_more : (stand : Stand) (k : ℕ) → with_children stand k ≤ k + 2
    two_more (Round cycle) k = omega arith
    two_more (Waiting cost) k = omega arith
    two_more (Expanded cost q) k = omega arith

    at_most_two : {a b : List Node} {j k : ℕ} → IsTaken m h.node h.way a b j k → k ≤ j + 2
    at_most_two (left_out k same) = let t = two_more h.node.stand k in omega (arith, t)
    at_most_two (written stood k is same) = as_two h.node.stand stood k is

-- fewer trees are left out than twice the nodes of a line
pub few_left_out : (m : Making) (line : List Numbered) (walk : Walk) → IsWalked m line walk → walk.left_out ≤ 2 * length line
few_left_out m line walk w = let e = ap length w.place in let h = length-append w.front w.back in omega (arith, e, h, w.few)

pub some_to_come : (m : Making) (line : List Numbered) (walk : Walk) (number : ℕ) → IsHere m line walk number → 1 ≤ walk.to_come
some_to_come m line walk number h = omega (arith, h.to_come)

-- the same walk beside the same best order
pub walked_same : (m n : Making) (line : List Numbered) (walk : Walk) → n.graph ≡ m.graph → n.state ≡ m.state → n.cost ≡ m.cost → IsWalked m line walk → IsWalked n line walk
walked_same m n line walk eg ex ec w = record {
  front = w.front;
  back = w.back;
  place = w.place;
  next = w.next;
  to_come = w.to_come;
  few = w.few;
  goes_on = three_same (λ g x c. (more : List Node) → IsWrittenOf g x c (λ z. Unit {0}) (λ z. Unit {0}) (behind walk.left_out (nodes_on w.back)) (drop walk.left_out (ways_past (nodes_on w.front) ([] ∷ []))) more → IsWrittenOf g x c (λ z. Unit {0}) (λ z. Unit {0}) (nodes_on line) ([] ∷ []) (walk.cert ++ more)) (sym eg) (sym ex) (sym ec) w.goes_on;
}
  where
    three_same : (P : Graph → FleetState → ℕ → Type 0) {g h : Graph} {x y : FleetState} {c d : ℕ} → g ≡ h → x ≡ y → c ≡ d → P g x c → P h y d
    three_same P {h = h} {x = x} {y = y} {c = c} e f i p = subst (λ k. P h y k) i (subst (λ z. P h z c) f (subst (λ z. P z x c) e p))

-- a node that is left out, and one that is written
pub taken_out : (m : Making) (node : MadeNode) (way : List Decision) (nodes : List Node) (j k more : ℕ) → j ≡ suc k → with_children node.stand k ≡ more → IsTaken m node way nodes nodes j more
taken_out m node way nodes j k more e f = subst (λ (i : ℕ). IsTaken m node way nodes nodes i more) (sym e) (subst (λ (i : ℕ). IsTaken m node way nodes nodes (suc k) i) f (left_out k refl))

pub taken_written : (m : Making) (node : MadeNode) (way : List Decision) (old forced new : List Node) (stood : Node) (j k : ℕ) (forcings : List Forcing) → j ≡ 0 → IsWrittenAs m.graph m.state m.cost (forced_on node.forced way) node.stand stood k
    → forcings ≡ node.forced → forced ≡ old ++ forced_nodes forcings → new ≡ forced ++ stood ∷ [] → IsTaken m node way old new j k
taken_written m node way old forced new stood j k forcings e is same first then =
    subst (λ (i : ℕ). IsTaken m node way old new i k) (sym e) (written stood k is (then ∙ ap (λ (l : List Node). l ++ stood ∷ []) (first ∙ ap (λ (fs : List Forcing). old ++ forced_nodes fs) same)))

-- more Force nodes
forced-append : (fs gs : List Forcing) → forced_nodes (fs ++ gs) ≡ forced_nodes fs ++ forced_nodes gs
forced-append [] gs = refl
forced-append (f ∷ fs) gs = ap (λ (l : List Node). Force f.pair f.side (f.mate ∷ f.pair ∷ []) ∷ l) (forced-append fs gs)

-- one Force node more
pub one_forced : (old nodes new : List Node) (fs : List Forcing) (k : ℕ) (d : Forcing) (node : Node) → k < length fs → nodes ≡ old ++ forced_nodes (take k fs) → node ≡ Force (get_or fs k d).pair (get_or fs k d).side ((get_or fs k d).mate ∷ (get_or fs k d).pair ∷ []) → new ≡ nodes ++ node ∷ []
    → new ≡ old ++ forced_nodes (take (k + 1) fs)
one_forced old nodes new fs k d node lt so_far is then =
    then
    ∙ ap (λ (l : List Node). l ++ node ∷ []) so_far
    ∙ append_assoc old (forced_nodes (take k fs)) (node ∷ [])
    ∙ ap (λ (n : Node). old ++ (forced_nodes (take k fs) ++ n ∷ [])) is
    ∙ ap (λ (l : List Node). old ++ l) (sym (forced-append (take k fs) (get_or fs k d ∷ [])))
    ∙ ap (λ (l : List Forcing). old ++ forced_nodes l) (sym (take_more fs k d lt))
