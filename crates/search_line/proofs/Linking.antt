-- Nodes that are linked: there is one line of them, on which each number stands once.
use Rattle.std.proofs.Common.{ℕ, ◌≡◌, ◌≢◌, ◌<◌, ◌≤◌, ◌∙◌, zero, suc, List, [], ◌∷◌, ◌++◌, length, refl, sym, ap, subst, arith, length-append}
use Rattle.std.specs.Prelude.{slice_get, Option, Some, None}
use Rattle.std.proofs.lemmas.Option.{slice_get_within}
use Rattle.order_choice.specs.declared.made.MadeNode.{MadeNode}
use Rattle.order_choice.specs.declared.made.Stand.{Stand}
use Rattle.order_choice.specs.declared.made.Stand.TheVariants.{Round, Waiting, Expanded}
use Rattle.order_choice.specs.Searching.{IsAbove, AreAbove}
use Rattle.search_line.specs.declared.kept.Kept.{Kept}
use Rattle.search_line.specs.Lines.{Numbered, nodes_on, first_number, IsOn}
use Rattle.search_line.specs.Nodes.{linked_from, with_rest, IsKept, AreLinked}
use Rattle.search_line.specs.Turns.{WaitsWith}

abbrev pub numbered : ℕ → MadeNode → Numbered
numbered number node = record { number = number; node = node }

pub same_numbered : (n m : Numbered) → n.number ≡ m.number → n.node ≡ m.node → n ≡ m
same_numbered n m p q = ap (λ (k : ℕ). numbered k n.node) p ∙ ap (λ (x : MadeNode). numbered m.number x) q

pub same_some : {X : Type 0} (o : Option X) (x y : X) → o ≡ Some x → o ≡ Some y → x ≡ y
same_some o x y p q = cc

-- two lines of linked nodes from one number on are the same
pub one_line : (nodes : List Kept) (at : Option ℕ) (a b : List Numbered) → AreLinked nodes at a → AreLinked nodes at b → a ≡ b
one_line nodes at [] [] h k = refl
one_line nodes at [] (m ∷ b) h k = let e : None ≡ Some m.number = sym h ∙ k.0 in cc
one_line nodes at (n ∷ a) [] h k = let e : None ≡ Some n.number = sym k ∙ h.0 in cc
one_line nodes at (n ∷ a) (m ∷ b) h k =
    let number : n.number ≡ m.number = same_some at n.number m.number h.0 k.0 in
    let kept : h.1.kept ≡ k.1.kept = same_some (slice_get nodes n.number) h.1.kept k.1.kept h.1.there (subst (λ (j : ℕ). slice_get nodes j ≡ Some k.1.kept) (sym number) k.1.there) in
    let node : n.node ≡ m.node = sym h.1.node ∙ ap (λ (z : Kept). z.node) kept ∙ k.1.node in
    let rest : a ≡ b = one_line nodes h.1.kept.next a b h.2 (subst (λ (z : Kept). AreLinked nodes z.next b) (sym kept) k.2) in
    ap (λ (z : Numbered). z ∷ a) (same_numbered n m number node) ∙ ap (λ (z : List Numbered). m ∷ z) rest

-- a node of the line is linked to those behind it
pub linked_at : (nodes : List Kept) (at : Option ℕ) (front back : List Numbered) (n : Numbered) → AreLinked nodes at (front ++ n ∷ back) → AreLinked nodes (Some n.number) (n ∷ back)
linked_at nodes at [] back n h = (refl, h.1, h.2)
linked_at nodes at (m ∷ front) back n h = linked_at nodes h.1.kept.next front back n h.2

-- the first number of linked nodes
pub first_linked : (nodes : List Kept) (at : Option ℕ) (line : List Numbered) → AreLinked nodes at line → at ≡ first_number line
first_linked nodes at [] h = h
first_linked nodes at (n ∷ line) h = h.0

-- a line that is no longer than what it is read for is the one that is read
pub read_line : (nodes : List Kept) (many : ℕ) (at : Option ℕ) (line : List Numbered) → AreLinked nodes at line → length line ≤ many → linked_from nodes many at ≡ line
read_line nodes zero at [] h le = refl
read_line nodes zero at (n ∷ line) h le = absurd (omega arith)
read_line nodes (suc many) at [] h le = subst (λ (o : Option ℕ). linked_from nodes (suc many) o ≡ []) (sym h) refl
read_line nodes (suc many) at (n ∷ line) h le =
    let rest : linked_from nodes many h.1.kept.next ≡ line = read_line nodes many h.1.kept.next line h.2 (omega arith) in
    let here : numbered n.number h.1.kept.node ≡ n = same_numbered (numbered n.number h.1.kept.node) n refl h.1.node in
    let found : with_rest n.number (linked_from nodes many) (slice_get nodes n.number) ≡ n ∷ line = subst (λ (o : Option Kept). with_rest n.number (linked_from nodes many) o ≡ n ∷ line) (sym h.1.there) (ap (λ (z : Numbered). z ∷ linked_from nodes many h.1.kept.next) here ∙ ap (λ (z : List Numbered). n ∷ z) rest) in
    subst (λ (o : Option ℕ). linked_from nodes (suc many) o ≡ n ∷ line) (sym h.0) found

-- none of these nodes has the number
abbrev pub HasNot : ℕ → List Numbered → Type 0
HasNot k [] = Unit {0}
HasNot k (n ∷ line) = (n.number ≢ k) × HasNot k line

pub lines_differ : (a b : List Numbered) → length a < length b → a ≢ b
lines_differ a b lt e = let same : length a ≡ length b = ap length e in omega arith

-- a number does not come again behind its node
pub not_in_shorter : (nodes : List Kept) (line whole : List Numbered) (at : Option ℕ) (k : ℕ) → AreLinked nodes at line → AreLinked nodes (Some k) whole → length line < length whole → HasNot k line
not_in_shorter nodes [] whole at k h w lt = tt
not_in_shorter nodes (n ∷ line) whole at k h w lt = (
  (λ e. lines_differ (n ∷ line) whole lt (one_line nodes (Some k) (n ∷ line) whole (ap (λ (j : ℕ). Some j) (sym e), h.1, h.2) w)),
  not_in_shorter nodes line whole h.1.kept.next k h.2 w (omega arith),
)

pub not_behind : (nodes : List Kept) (at : Option ℕ) (front back : List Numbered) (n : Numbered) → AreLinked nodes at (front ++ n ∷ back) → HasNot n.number back
not_behind nodes at front back n h =
    let here : AreLinked nodes (Some n.number) (n ∷ back) = linked_at nodes at front back n h in
    not_in_shorter nodes back (n ∷ back) here.1.kept.next n.number here.2 here (omega arith)

-- nor did it come before
pub not_before : (nodes : List Kept) (at : Option ℕ) (front back : List Numbered) (n : Numbered) → AreLinked nodes at (front ++ n ∷ back) → HasNot n.number front
not_before nodes at [] back n h = tt
not_before nodes at (m ∷ front) back n h = (
  (λ e. lines_differ (n ∷ back) (m ∷ (front ++ n ∷ back)) (omega (arith, length-append front (n ∷ back))) (sym (one_line nodes (Some n.number) (m ∷ (front ++ n ∷ back)) (n ∷ back) (ap (λ (j : ℕ). Some j) (sym e), h.1, h.2) (linked_at nodes at (m ∷ front) back n h)))),
  not_before nodes h.1.kept.next front back n h.2,
)

-- the node on the line is the one that is kept
pub kept_on : (nodes : List Kept) (at : Option ℕ) (line : List Numbered) (number : ℕ) (on : IsOn line number) → AreLinked nodes at line → IsKept nodes (numbered number on.node)
kept_on nodes at line number on h = (linked_at nodes at on.front on.back (numbered number on.node) (subst (λ (z : List Numbered). AreLinked nodes at z) on.place h)).1

pub within : (nodes : List Kept) (at : Option ℕ) (line : List Numbered) (number : ℕ) → IsOn line number → AreLinked nodes at line → number < length nodes
within nodes at line number on h = let k : IsKept nodes (numbered number on.node) = kept_on nodes at line number on h in slice_get_within nodes number k.kept k.there

-- where each node that waits costs so much at least, so do all of the line
pub above_by : (level : ℕ) (stand : Stand) → ((c : ℕ) → stand ≡ Waiting c → level ≤ c) → IsAbove level stand
above_by level (Round cycle) h = tt
above_by level (Waiting c) h = h c refl
above_by level (Expanded c q) h = tt

pub above_all : (nodes : List Kept) (level : ℕ) (line : List Numbered) (at : Option ℕ) → AreLinked nodes at line → ((number cost : ℕ) → WaitsWith nodes number cost → level ≤ cost) → AreAbove level (nodes_on line)
above_all nodes level [] at h all = tt
above_all nodes level (n ∷ line) at h all = (
  above_by level n.node.stand (λ c e. all n.number c (record { kept = h.1.kept; there = h.1.there; stand = ap (λ (z : MadeNode). z.stand) h.1.node ∙ e })),
  above_all nodes level line h.1.kept.next h.2 all,
)

-- what is kept at a place of the line
pub kept_at : (nodes : List Kept) (at : Option ℕ) (line front back : List Numbered) (number : ℕ) (node : MadeNode) (x : Kept) → AreLinked nodes at line → line ≡ front ++ numbered number node ∷ back → slice_get nodes number ≡ Some x → (x.next ≡ first_number back) × (x.node ≡ node)
kept_at nodes at line front back number node x h place there =
    let here : AreLinked nodes (Some number) (numbered number node ∷ back) = linked_at nodes at front back (numbered number node) (subst (λ (z : List Numbered). AreLinked nodes at z) place h) in
    let same : x ≡ here.1.kept = same_some (slice_get nodes number) x here.1.kept there here.1.there in
    (ap (λ (z : Kept). z.next) same ∙ first_linked nodes here.1.kept.next back here.2, ap (λ (z : Kept). z.node) same ∙ here.1.node)
